pub mod Firings
