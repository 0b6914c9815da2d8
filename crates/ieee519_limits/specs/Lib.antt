pub mod VoltageLimits
pub mod CurrentLimits
pub mod Verdicts
pub mod ExactVerdicts
pub mod Levels
