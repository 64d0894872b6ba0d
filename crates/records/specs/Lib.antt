pub mod Answer
pub mod Following
