-- Live nodes found in rounds: a plain way to compute what the relation says.
use Rattle.std.specs.Prelude.{ℕ, zero, suc, Bool, true, false, ◌&&◌, ◌||◌, ◌==◌, ◌↔◌, IsTrue, List, [], ◌∷◌}
use Rattle.network_theory.specs.Branch.{Tap, Branch}
use Rattle.network_theory.specs.Network.{Network, IsWhole}
use Rattle.network_theory.specs.Live.{Live}

-- the node of some tap is in the set
abbrev pub has_in : (ℕ → Bool) → List Tap → Bool
has_in set [] = false
has_in set (t ∷ taps) = set t.node || has_in set taps

-- a branch of one tap, or with a node in the set
abbrev pub is_tied : (ℕ → Bool) → List Tap → Bool
is_tied set [] = false
is_tied set (t ∷ []) = true
is_tied set (t ∷ u ∷ taps) = has_in set (t ∷ u ∷ taps)

-- some such branch has a tap at the node
abbrev pub is_reached : (ℕ → Bool) → List Branch → ℕ → Bool
is_reached set [] n = false
is_reached set (b ∷ branches) n = (is_tied set b.taps && has_in (λ m. m == n) b.taps) || is_reached set branches n

-- the nodes that so many rounds reach, beginning with none: each round adds the nodes of such branches
abbrev pub in_rounds : ℕ → List Branch → ℕ → Bool
in_rounds zero branches n = false
in_rounds (suc k) branches n = in_rounds k branches n || is_reached (in_rounds k branches) branches n

-- as many rounds as there are nodes, and one
unfoldable pub is_live : Network → ℕ → Bool
is_live network n = in_rounds (suc network.nodes) network.branches n

-- of a whole network they reach exactly the live nodes
abbrev pub LiveInRounds : Type 0
LiveInRounds = (network : Network) → IsWhole network → (n : ℕ) → IsTrue (is_live network n) ↔ Live network n
