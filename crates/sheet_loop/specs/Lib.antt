pub mod Office
pub mod Sheets
pub mod Served
pub mod Counting
