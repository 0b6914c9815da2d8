pub mod Bench
pub mod Bounds
pub mod Columns
pub mod Drops
pub mod Near
pub mod Results
