pub mod quick
