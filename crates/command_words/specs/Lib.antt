pub mod Forms
pub mod Wrong
pub mod Told
