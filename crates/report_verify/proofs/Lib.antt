pub mod Settling
pub mod Tallied
pub mod BoxKinds
pub mod Steps
pub mod Telling
pub mod Holds
