mod Cases
pub mod Lists
pub mod Names
pub mod Put
pub mod Added
pub mod Withdrawn
pub mod Later
pub mod Counts
pub mod Placed
pub mod CutsAdded
pub mod WordsAdded
pub mod Taken
pub mod CutsWithdrawn
pub mod CutsNoted
pub mod CutsAppend
pub mod Thinned
pub mod Again
