pub mod Part
pub mod Lists
pub mod Sizes
