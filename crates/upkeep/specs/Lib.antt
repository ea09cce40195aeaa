pub mod Upkeep
pub mod Adding
