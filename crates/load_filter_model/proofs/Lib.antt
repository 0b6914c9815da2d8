pub mod LawLists
pub mod TunedValues
pub mod Ports
pub mod Sound
pub mod Filters
