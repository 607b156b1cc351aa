pub mod Pieces
pub mod Ending
pub mod Fleets
pub mod Advices
pub mod Lists
