pub mod Keeps
pub mod Turning
pub mod Wear
pub mod Journals
