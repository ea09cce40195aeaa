pub mod Built
pub mod Plain
pub mod Contents
pub mod Keys
pub mod Written
pub mod Steps
