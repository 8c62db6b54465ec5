pub mod Limit
pub mod Classes
pub mod SoundKept
pub mod Steps
pub mod Walking
pub mod Calling
pub mod StepLaws
pub mod Longer
