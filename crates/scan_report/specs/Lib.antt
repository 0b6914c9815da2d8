pub mod Text
pub mod Fields
pub mod Rows
pub mod Reading
pub mod Loose
pub mod Stands
