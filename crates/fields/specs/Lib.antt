pub mod Layouts
pub mod Fitted
