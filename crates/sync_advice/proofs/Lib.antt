pub mod Climbing
pub mod Placing
pub mod Finding
pub mod Bringing
pub mod Behind
pub mod Sold
pub mod Only
