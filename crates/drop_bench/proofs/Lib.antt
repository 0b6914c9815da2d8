pub mod Rounding
pub mod Plain
pub mod Pairs
pub mod Columns
pub mod Reaches
pub mod Founds
