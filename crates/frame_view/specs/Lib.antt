pub mod View
pub mod Again
