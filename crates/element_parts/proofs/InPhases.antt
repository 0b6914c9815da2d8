-- What is added in each of the three phases.
use Rattle.std.proofs.Common.{◌≡◌, ℕ, ◌++◌, List, refl, append_assoc}
use Rattle.network_theory.specs.Branch.{Branch}
use Rattle.element_parts.specs.Phases.{in_phases}

pub added_in_phases : (added : ℕ → List Branch) (old one two new : List Branch) → one ≡ old ++ added 0 → two ≡ one ++ added 1 → new ≡ two ++ added 2 → new ≡ old ++ in_phases added
added_in_phases added old one two new e f g = rw (g, f, e, append_assoc, append_assoc) refl
