pub mod Reports
pub mod KeyOrder
pub mod Books
