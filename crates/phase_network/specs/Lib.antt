pub mod Phases
pub mod Built
pub mod Refusals
