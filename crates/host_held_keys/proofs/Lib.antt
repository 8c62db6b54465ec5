pub mod Applied
pub mod NoHangingNote
