pub mod Drops
pub mod Sizes
pub mod Reach
pub mod Enclosed
pub mod Holds
pub mod Answers
pub mod Worked
