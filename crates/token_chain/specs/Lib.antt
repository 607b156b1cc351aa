pub mod Mixers
pub mod Place
