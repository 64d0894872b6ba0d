pub mod Answer
pub mod RowsFit
