pub mod Numerals
pub mod Tokens
pub mod Writing
pub mod Reading
