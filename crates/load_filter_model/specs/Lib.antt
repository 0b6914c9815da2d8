pub mod Presence
pub mod Ports
pub mod ExactPorts
pub mod Sources
pub mod Loads
pub mod Banks
pub mod Filters
