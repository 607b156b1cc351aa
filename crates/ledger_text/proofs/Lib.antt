pub mod JsonLemmas
pub mod ReadingLemmas
pub mod RuleLemmas
