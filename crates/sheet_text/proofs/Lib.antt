pub mod IdLemmas
pub mod ReadingLemmas
