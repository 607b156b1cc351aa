pub mod Reader
pub mod Gather
pub mod Handling
pub mod Outside
pub mod Turn
