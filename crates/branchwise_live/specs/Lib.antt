pub mod Live
pub mod Series
