pub mod Faults
pub mod Between
pub mod Commands
pub mod Standing
pub mod Differing
pub mod Once
pub mod Typing
pub mod Points
