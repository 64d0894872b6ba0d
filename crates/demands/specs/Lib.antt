pub mod Refusals
pub mod Verdicts
pub mod Replays
pub mod Listings
