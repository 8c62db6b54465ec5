pub mod Answer
pub mod Device
