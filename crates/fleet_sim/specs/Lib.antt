pub mod Tallies
pub mod Sites
pub mod Fleets
