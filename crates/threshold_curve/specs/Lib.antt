pub mod Curve
pub mod Laws
