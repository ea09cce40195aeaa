pub mod Measures
pub mod Named
pub mod Sizes
pub mod Least
pub mod Fractions
pub mod Terms
