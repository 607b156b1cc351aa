pub mod Counted
pub mod Flawless
pub mod Twinned
pub mod Walking
