pub mod Told
pub mod Checks
pub mod FirstFault
pub mod Claim
