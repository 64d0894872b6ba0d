pub mod Digits
pub mod Lanes
pub mod Sets
