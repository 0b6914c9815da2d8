pub mod Networks
pub mod Scanned
