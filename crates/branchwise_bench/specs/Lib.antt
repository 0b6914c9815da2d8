pub mod Layout
pub mod Pair
