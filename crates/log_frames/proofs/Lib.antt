pub mod RoundTrips
pub mod Cases
