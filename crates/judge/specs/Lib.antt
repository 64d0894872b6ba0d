pub mod CaseJudged
pub mod Kinds
