pub mod PathLemmas
pub mod ReadingLemmas
