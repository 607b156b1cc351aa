pub mod Summary
pub mod Outcomes
pub mod Begin
pub mod Reading
