pub mod Memory
pub mod Decided
pub mod Changes
pub mod Texts
