pub mod Rests
pub mod Ends
pub mod Sums
pub mod Same
