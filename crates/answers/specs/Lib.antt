pub mod Output
pub mod Rows
