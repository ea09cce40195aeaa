pub mod Queries
pub mod Demands
