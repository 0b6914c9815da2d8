pub mod NameTexts
pub mod Lawful
pub mod Live
pub mod Steps
