-- A cascade of three phases as one section after another.
use Rattle.std.proofs.Common.{◌≡◌, ℕ, ◌+◌, ◌++◌, suc, List, refl, append_assoc}
use Rattle.std.specs.Prelude.{Option}
use Rattle.network_theory.specs.Branch.{Law, Coupling, Branch}
use Rattle.line_pi.specs.PhaseLines.{phase_section, phase_cascade}

-- branches so far with the first section of those over a number of inner nodes above 0, before what remains after it
pub one_more : (values : Coupling) (shunt pair : Option Law) (near next after count rest far group more owner : ℕ) (old new whole : List Branch) → count ≡ suc rest → after ≡ next + 3 → more ≡ group + 1
    → new ≡ old ++ phase_section values shunt pair near next group owner → old ++ phase_cascade values shunt pair near next count far group owner ≡ whole
    → new ++ phase_cascade values shunt pair next after rest far more owner ≡ whole
one_more values shunt pair near next after count rest far group more owner old new whole c f g e k =
    let first : phase_cascade values shunt pair near next count far group owner ≡ phase_section values shunt pair near next group owner ++ phase_cascade values shunt pair next after rest far more owner = rw (c, f, g) refl in
    rw (e, append_assoc, ← first) k

-- branches so far with the last section
pub last_one : (values : Coupling) (shunt pair : Option Law) (near next count far end group more owner : ℕ) (old new whole : List Branch) → count ≡ 0 → end ≡ far → more ≡ group
    → new ≡ old ++ phase_section values shunt pair near end more owner → old ++ phase_cascade values shunt pair near next count far group owner ≡ whole → new ≡ whole
last_one values shunt pair near next count far end group more owner old new whole c f g e k =
    let last : phase_cascade values shunt pair near next count far group owner ≡ phase_section values shunt pair near end more owner = rw (c, f, g) refl in
    rw (e, ← last) k
