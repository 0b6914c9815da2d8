pub mod Lists
pub mod Inverse
pub mod Points
pub mod Leads
pub mod Divisor
