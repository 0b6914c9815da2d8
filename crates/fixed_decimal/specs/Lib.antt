pub mod Parsed
pub mod Seen
pub mod Grammar
