pub mod Widened
pub mod Small
pub mod Natural
pub mod Apart
pub mod Faults
pub mod Ends
pub mod Report
pub mod Claim
