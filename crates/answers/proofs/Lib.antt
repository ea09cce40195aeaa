pub mod Input
pub mod Text
pub mod Asking
pub mod Responding
pub mod Reading
pub mod Pieces
pub mod Ends
