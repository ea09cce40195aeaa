pub mod Import
pub mod Steps
pub mod Demands
pub mod Figures
