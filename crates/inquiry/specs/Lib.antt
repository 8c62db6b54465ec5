pub mod Identity
pub mod Reply
pub mod Request
pub mod Shape
