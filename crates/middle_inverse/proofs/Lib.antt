pub mod Each
pub mod Skips
pub mod Near
pub mod Divisors
mod Steps
pub mod Wide
mod Written
mod Behind
