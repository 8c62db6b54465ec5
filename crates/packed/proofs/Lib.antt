pub mod Bits
pub mod Groups
pub mod Lengths
pub mod RoundTrip
pub mod Rows
mod Room
