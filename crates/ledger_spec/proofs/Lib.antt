pub mod NameLemmas
pub mod Lookups
pub mod KeptLemmas
pub mod Alone
pub mod IssueLemmas
pub mod AppliedLemmas
pub mod SortedLemmas
pub mod PriceLemmas
