pub mod Room
pub mod Upto
pub mod Demands
