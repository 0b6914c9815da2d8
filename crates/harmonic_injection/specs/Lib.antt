pub mod Injections
pub mod Paths
pub mod Laws
