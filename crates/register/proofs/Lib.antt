pub mod Judging
pub mod Taking
pub mod Ending
pub mod First
pub mod Laws
pub mod Names
mod Cases
pub mod Room
