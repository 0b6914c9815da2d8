pub mod Cascade
pub mod Sound
pub mod PhaseCascade
pub mod PhaseSound
