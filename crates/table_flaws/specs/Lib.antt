pub mod Flaws
pub mod Sums
pub mod Bounds
pub mod Found
pub mod FlawText
