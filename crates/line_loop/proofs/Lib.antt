pub mod Cuts
pub mod Pieces
pub mod Held
pub mod Gathering
pub mod Turning
pub mod Looping
pub mod Going
