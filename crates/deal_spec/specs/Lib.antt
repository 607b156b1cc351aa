pub mod Deal
pub mod Promises
