pub mod Chains
pub mod Rows
pub mod Moves
pub mod Faults
pub mod Outcome
