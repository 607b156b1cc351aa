pub mod Unseen
pub mod Answering
pub mod Runs
pub mod Pressing
