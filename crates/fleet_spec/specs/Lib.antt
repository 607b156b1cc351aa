pub mod Words
pub mod Script
pub mod Fleet
pub mod Text
