pub mod Lines
pub mod Cut
pub mod Evenly
