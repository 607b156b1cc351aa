pub mod Later
pub mod Quotes
pub mod Skipped
