pub mod Sums
pub mod Orders
pub mod Least
pub mod Keeping
pub mod Counting
pub mod Entries
