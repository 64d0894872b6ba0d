-- Laws on plain values that the proofs of this crate and of others cite.
pub mod RowLaws
pub mod WordLaws
pub mod OrderLaws
pub mod SortLaws
pub mod SameRows
pub mod ByteLaws
pub mod BehindLaws
