pub mod Picks
pub mod Sorted
pub mod Ordered
