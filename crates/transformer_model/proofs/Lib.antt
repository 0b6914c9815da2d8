pub mod Sound
pub mod PhaseSound
