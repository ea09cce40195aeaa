pub mod Laws
pub mod Judging
pub mod Names
pub mod Adding
pub mod Withdrawing
mod Cases
