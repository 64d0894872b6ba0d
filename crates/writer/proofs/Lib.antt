pub mod RoundTrip
pub mod Outcomes
