pub mod Counting
pub mod Following
pub mod Stepping
pub mod Closing
