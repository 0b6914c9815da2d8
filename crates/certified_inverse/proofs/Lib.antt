pub mod Raw
pub mod Rows
pub mod Law
mod Worked
pub mod Products
pub mod Greatest
pub mod Placed
pub mod Zeros
pub mod Shape
pub mod Sizes
