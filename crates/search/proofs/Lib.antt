pub mod Rows
pub mod AgainstMethod
pub mod Answered
pub mod Running
pub mod Listed
pub mod Outcomes
