pub mod Transformers
pub mod NeutralLaws
pub mod Windings
pub mod ExactSides
