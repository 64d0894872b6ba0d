pub mod Putting
pub mod Ones
pub mod Slices
