-- The law of a neutral as a list.
use Rattle.std.specs.Prelude.{List, [], ◌∷◌, Option, Some, None}
use Rattle.network_theory.specs.Branch.{Law as ExactLaw}
use Rattle.net_branch.specs.declared.network.Law.{Law}
use Rattle.net_branch.specs.Exact.{exact_law}

-- empty where the side is grounded without an impedance
abbrev pub laws_of : Option Law → List ExactLaw
laws_of None = []
laws_of (Some law) = exact_law law ∷ []
