pub mod Lines
pub mod PhaseLines
