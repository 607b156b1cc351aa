pub mod Skipping
pub mod Growing
