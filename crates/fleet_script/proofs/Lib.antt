pub mod WordLemmas
pub mod TextLemmas
pub mod Growing
pub mod Ranges
pub mod Reference
