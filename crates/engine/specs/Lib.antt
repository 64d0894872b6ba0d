pub mod Firing
pub mod Markings
pub mod Fits
pub mod Here
pub mod Position
