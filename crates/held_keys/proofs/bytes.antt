pub mod Filled
pub mod RoundTrip
pub mod Words
