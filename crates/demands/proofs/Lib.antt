pub mod Demand1
pub mod Upward
pub mod Demand2
pub mod Demand2Replay
pub mod Demand3
pub mod WrongPrograms
