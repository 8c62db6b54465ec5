pub mod Answers
pub mod Devices
