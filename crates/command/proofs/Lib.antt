pub mod Arms
pub mod Table
