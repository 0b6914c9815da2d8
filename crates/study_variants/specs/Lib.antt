pub mod Kinds
pub mod Outages
pub mod Scratch
pub mod Sizes
pub mod Worked
