pub mod Asking
pub mod Barred
pub mod CaseListed
pub mod Giving
