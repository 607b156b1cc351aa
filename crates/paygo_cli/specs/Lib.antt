pub mod Ends
pub mod Advised
pub mod Listed
