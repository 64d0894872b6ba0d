pub mod Ranks
pub mod TurnLaws
