pub mod Media
pub mod Cuts
pub mod Plans
