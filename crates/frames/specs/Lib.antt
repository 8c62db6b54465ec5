pub mod Dropped
pub mod Lengths
pub mod Table
