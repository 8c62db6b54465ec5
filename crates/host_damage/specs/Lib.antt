pub mod Numbers
pub mod HostCalls
pub mod RunningCalls
