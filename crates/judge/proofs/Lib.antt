pub mod Judging
pub mod KindLaws
pub mod Whole
