pub mod Elimination
pub mod Rectangles
pub mod Layout
pub mod Matrix
pub mod Pattern
pub mod Worked
