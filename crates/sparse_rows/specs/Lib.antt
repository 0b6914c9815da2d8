pub mod Listed
pub mod Bench
pub mod Gaps
pub mod Marks
pub mod Sides
