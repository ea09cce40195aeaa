pub mod Good
pub mod Check
