pub mod Parts
pub mod Accepted
pub mod Numbered
pub mod RunPlace
