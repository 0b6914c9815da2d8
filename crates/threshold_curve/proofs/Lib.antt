pub mod Rising
pub mod Lines
pub mod Lesser
pub mod Least
