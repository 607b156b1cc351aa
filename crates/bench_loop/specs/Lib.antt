pub mod Side
pub mod Runs
