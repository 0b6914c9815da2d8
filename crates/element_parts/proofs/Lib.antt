pub mod Values
pub mod Numbers
pub mod PlainElements
pub mod SmallValues
pub mod Sound
pub mod Adding
pub mod InPhases
pub mod GroupedElements
