pub mod State
pub mod Reports
pub mod Feed
pub mod quick
