pub mod Report
pub mod Tables
pub mod Demands
pub mod RoundTrips
