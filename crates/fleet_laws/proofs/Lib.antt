pub mod Acting
pub mod Alike
pub mod Stepping
pub mod Laws
