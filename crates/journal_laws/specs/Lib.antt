pub mod Journal
pub mod Banks
