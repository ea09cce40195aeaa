pub mod Laws
pub mod Rows
pub mod Sized
pub mod Spans
pub mod Total
