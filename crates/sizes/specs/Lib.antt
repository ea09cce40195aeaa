pub mod Method
pub mod Tables
