pub mod ReadBack
pub mod DataLength
