pub mod Advice
pub mod Places
pub mod Typing
pub mod Answers
