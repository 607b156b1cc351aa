pub mod Chaining
pub mod Mixing
pub mod Stepping
pub mod Parting
