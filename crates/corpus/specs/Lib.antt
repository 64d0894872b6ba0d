pub mod Rooms
pub mod Takes
