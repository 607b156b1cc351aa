pub mod Meaning
pub mod Lives
pub mod Runs
pub mod Parted
