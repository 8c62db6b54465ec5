pub mod Reader
pub mod Payload
