pub mod Tried
pub mod Scanned
pub mod Listed
pub mod Texts
pub mod Claims
