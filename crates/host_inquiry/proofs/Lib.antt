pub mod Read
pub mod Again
