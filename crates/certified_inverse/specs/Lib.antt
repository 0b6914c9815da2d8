pub mod Certificate
pub mod Worked
pub mod Sizes
pub mod Ways
