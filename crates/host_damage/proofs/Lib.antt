pub mod Named
pub mod NumbersTold
pub mod Condition3OfHost
pub mod RunningReadBack
