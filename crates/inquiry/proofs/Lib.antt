pub mod RoundTrip
pub mod Replies
pub mod Numbered
