pub mod Answers
pub mod Places
