pub mod Floating
pub mod Names
pub mod Cases
pub mod Counting
pub mod Table
pub mod Envelopes
pub mod Report
pub mod Claim
