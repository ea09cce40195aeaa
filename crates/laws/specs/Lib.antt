pub mod Lists
pub mod Below
pub mod Sort
pub mod First
pub mod Filter
pub mod Each
pub mod Cases
