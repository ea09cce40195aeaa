mod Digits
pub mod Search
pub mod Seats
