pub mod Ranges
pub mod Fours
pub mod KeptLemmas
pub mod Once
pub mod Listed
pub mod ChosenLemmas
pub mod ByValueLemmas
