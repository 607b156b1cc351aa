pub mod Lists
pub mod Kept
pub mod Knot
pub mod ByValue
