pub mod Scan
pub mod Walk
pub mod Claim
pub mod Regions
pub mod Tallies
pub mod Fold
pub mod Report
pub mod Plan
