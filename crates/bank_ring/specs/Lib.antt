pub mod View
pub mod Starts
pub mod Shown
pub mod Rings
pub mod Orderly
