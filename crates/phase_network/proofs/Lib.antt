pub mod Groups
pub mod Branches
pub mod Refused
pub mod Growing
pub mod Owners
