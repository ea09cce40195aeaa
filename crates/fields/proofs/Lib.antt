pub mod Layouts
pub mod Coded
pub mod Laws
pub mod Fitted
