pub mod Facts
pub mod Laws
pub mod Keys
mod Check
mod Names
mod Tally
mod Ranges
pub mod Total
pub mod Limits
