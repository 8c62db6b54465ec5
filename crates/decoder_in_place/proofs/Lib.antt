mod Refused
pub mod Front
