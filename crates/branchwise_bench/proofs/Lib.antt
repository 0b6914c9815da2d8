pub mod Counting
pub mod Laid
pub mod Making
