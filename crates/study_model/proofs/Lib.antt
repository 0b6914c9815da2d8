pub mod Names
pub mod Curves
pub mod WorkedScans
