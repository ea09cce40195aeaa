pub mod Text
pub mod Import
pub mod Parts
pub mod Most
pub mod Demands
pub mod RoundTrips
