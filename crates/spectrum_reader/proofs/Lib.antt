pub mod Steps
pub mod Places
pub mod Ascii
pub mod Sound
