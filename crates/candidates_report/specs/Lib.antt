pub mod Sizes
pub mod Entries
pub mod First
pub mod Rows
pub mod Report
pub mod Claim
