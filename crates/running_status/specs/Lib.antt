pub mod RunningStatus
pub mod StateBytes
pub mod Chain
pub mod Sending
pub mod Stream
pub mod ReadBack
