pub mod Fractions
pub mod Measures
pub mod Sizes
pub mod Least
pub mod Terms
pub mod Inclusive
