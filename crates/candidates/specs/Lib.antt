pub mod Method
pub mod Spending
pub mod Tables
