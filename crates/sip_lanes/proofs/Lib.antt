pub mod CountLemmas
pub mod SideLemmas
pub mod LaneLemmas
