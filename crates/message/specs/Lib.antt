pub mod Fields
pub mod Head
pub mod Prefix
pub mod quick
