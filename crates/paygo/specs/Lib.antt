pub mod Exit
pub mod Paths
