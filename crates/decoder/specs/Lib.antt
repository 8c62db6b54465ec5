pub mod State
pub mod Step
pub mod Call
pub mod Reports
