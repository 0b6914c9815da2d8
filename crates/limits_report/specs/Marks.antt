-- The live nodes of a network, by one value for each node.
use Rattle.std.specs.Prelude.{◌≡◌, ℕ, Bool, false, List, get_or}
use Rattle.network_theory.specs.Network.{Network}
use Rattle.network_theory.specs.Reach.{is_live}

-- true exactly where the node is live; a number past the last is of no node
abbrev pub AreMarks : Network → List Bool → Type 0
AreMarks network marks = (n : ℕ) → get_or marks n false ≡ is_live network n
