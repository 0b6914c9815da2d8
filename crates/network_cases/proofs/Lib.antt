pub mod Equal
pub mod Pairs
