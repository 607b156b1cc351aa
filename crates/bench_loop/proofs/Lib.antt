pub mod Longs
pub mod Looping
pub mod Promising
pub mod Sides
pub mod Going
