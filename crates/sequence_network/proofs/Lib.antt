pub mod Branches
pub mod Owners
pub mod Growth
pub mod Liveness
pub mod AtOrderTwo
pub mod LiveRefusals
