pub mod Giving
pub mod Selling
pub mod Reporting
pub mod Lines
pub mod Looping
pub mod Counting
