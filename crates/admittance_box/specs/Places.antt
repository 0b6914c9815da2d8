-- The ordering of a matrix's nodes, and the places of nodes in it.
use Rattle.std.specs.Prelude.{◌≡◌, ◌↔◌, ℕ, zero, suc, ◌-◌, Bool, ◌==◌, ◌&&◌, not, IsTrue, List, [], ◌∷◌, ◌++◌, Option, Some, None, if◌then◌else◌}
use Rattle.std.specs.Option.{option_map}
use Rattle.network_theory.specs.Network.{Network}
use Rattle.network_theory.specs.Live.{Live}

-- of the `count` nodes from number `from` on, the live ones but the driven one, in ascending order
abbrev pub live_from : (ℕ → Bool) → ℕ → ℕ → ℕ → List ℕ
live_from live driven from zero = []
live_from live driven from (suc count) =
    if live from && not (from == driven) then from ∷ live_from live driven (suc from) count else live_from live driven (suc from) count

-- the live inner nodes, then the live bus nodes, and the driven node last
abbrev pub node_ordering : Network → (ℕ → Bool) → ℕ → List ℕ
node_ordering network live driven = live_from live driven network.buses (network.nodes - network.buses) ++ live_from live driven 0 network.buses ++ driven ∷ []

-- the node ordering of a network's live nodes
pub record IsNodeOrdering (network : Network) (driven : ℕ) (ordering : List ℕ) : Type 0 where
  pub live : ℕ → Bool
  pub right : (n : ℕ) → IsTrue (live n) ↔ Live network n
  pub same : ordering ≡ node_ordering network live driven

-- the place of a node in the ordering, if it has one
abbrev pub place_of : List ℕ → ℕ → Option ℕ
place_of [] n = None
place_of (m ∷ ordering) n = if m == n then Some 0 else option_map suc (place_of ordering n)
