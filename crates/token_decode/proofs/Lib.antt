pub mod Passed
pub mod Answers
pub mod Meaning
pub mod Entering
