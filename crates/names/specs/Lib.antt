pub mod Names
pub mod Features
pub mod Shared
pub mod Set
