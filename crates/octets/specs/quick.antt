pub mod Words
pub mod Data
