pub mod Schema
pub mod Stored
pub mod Telling
pub mod Sums
