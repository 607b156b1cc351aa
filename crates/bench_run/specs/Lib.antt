pub mod Request
pub mod Bench
