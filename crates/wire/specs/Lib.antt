pub mod ChannelMessage
pub mod RealTime
pub mod SystemCommon
pub mod Status
pub mod Channel
