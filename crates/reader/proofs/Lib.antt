pub mod Turns
pub mod Given
pub mod LogCut
