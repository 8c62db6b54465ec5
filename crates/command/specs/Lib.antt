pub mod Command
pub mod Payload
pub mod quick
pub mod Laws
