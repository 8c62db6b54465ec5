pub mod Named
pub mod Read
pub mod ToldBytes
pub mod Again
