pub mod Candidates
pub mod Spending
pub mod Tables
pub mod Testing
pub mod Counts
pub mod Places
