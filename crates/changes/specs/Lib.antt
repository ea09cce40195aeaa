pub mod Others
pub mod Names
pub mod Rows
pub mod Cuts
