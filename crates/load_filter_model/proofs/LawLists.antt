-- Lists of laws.
use Rattle.std.proofs.Common.{◌≡◌, ℤ, Bool, true, List, [], ◌∷◌, ◌++◌, map, refl}
use Rattle.std.specs.Prelude.{Option, Some, None, option_map}
use Rattle.std.proofs.lemmas.List.{map-append}
use Rattle.network_theory.specs.Branch.{Law as ExactLaw}
use Rattle.net_branch.specs.Exact.{exact_law}
use Rattle.net_branch.specs.declared.network.Law.{Law}
use Rattle.element_parts.specs.Expansion.{law_where}
use Rattle.element_parts.specs.Phases.{power_in}

-- a law that is there, behind those before
pub pushed : (xs ys : List Law) (x : Law) (b : Bool) (law : ExactLaw) → ys ≡ xs ++ x ∷ [] → b ≡ true → exact_law x ≡ law → map exact_law ys ≡ map exact_law xs ++ law_where b law
pushed xs ys x b law e t f = rw (e, t, map-append exact_law xs (x ∷ []), f) refl

-- a power as it is written, where there is one
pub as_written : (o : Option ℤ) → option_map (power_in None) o ≡ o
as_written None = refl
as_written (Some d) = refl
