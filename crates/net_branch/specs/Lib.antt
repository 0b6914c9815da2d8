pub mod Exact
pub mod Whole
pub mod Refusal
pub mod LiveNodes
pub mod Marks
pub mod Next
