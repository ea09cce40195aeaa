pub mod Build
pub mod Steps
