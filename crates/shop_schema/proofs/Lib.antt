pub mod Needs
pub mod OldTexts
