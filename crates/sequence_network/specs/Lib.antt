pub mod Networks
pub mod Owners
pub mod Built
pub mod Refusals
pub mod Worked
