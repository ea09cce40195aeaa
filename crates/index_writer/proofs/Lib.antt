mod Cases
pub mod Read
pub mod Plain
pub mod Runs
pub mod Holders
pub mod Entries
pub mod Built
pub mod Unique
pub mod Pass
pub mod Over
pub mod Keys
pub mod Rows
pub mod Parts
