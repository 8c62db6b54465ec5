pub mod HeldBytes
pub mod HeldKeys
pub mod Played
pub mod Record
