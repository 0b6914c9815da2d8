pub mod Distortion
pub mod Laws
pub mod Percents
pub mod Solved
pub mod Solver
pub mod Squares
pub mod Totals
