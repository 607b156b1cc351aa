pub mod Logs
pub mod Handed
