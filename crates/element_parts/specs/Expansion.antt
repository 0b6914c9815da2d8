-- What elements add to a network: inner nodes and branches.
use Rattle.std.specs.Prelude.{ℕ, ◌+◌, ℤ, pos, negsuc, nat_lt, Bool, true, false, ◌||◌, List, [], ◌∷◌, ◌++◌, map, length}
use Rattle.exact_algebra.specs.Ratio.{Ratio, whole}
use Rattle.network_theory.specs.Branch.{Law, Series, Branch}
use Rattle.network_theory.specs.Network.{Network}
use Rattle.net_branch.specs.declared.limits.TheConstants.{MAX_NODES, MAX_BRANCHES}
use Rattle.element_parts.specs.PerUnit.{as_written}

-- The inner nodes that an element adds, and its branches in order.
pub record Expansion : Type 0 where
  pub inner : ℕ
  pub branches : List Branch

-- a network with one more element
abbrev pub with_element : Network → Expansion → Network
with_element n e = record { buses = n.buses; nodes = n.nodes + e.inner; branches = n.branches ++ e.branches }

-- more nodes or more branches than a network may have
abbrev pub passes_limits : Network → Bool
passes_limits n = nat_lt MAX_NODES n.nodes || nat_lt MAX_BRANCHES (length n.branches)

-- an uncoupled branch from a node to ground
abbrev pub to_ground : ℕ → Law → ℕ → Branch
to_ground bus law owner = record { taps = record { node = bus; ratio = whole (pos 1) } ∷ []; law = law; group = 0; owner = owner }

-- an uncoupled branch between two nodes
abbrev pub between : ℕ → ℕ → Law → ℕ → Branch
between a b law owner = record { taps = record { node = a; ratio = whole (pos 1) } ∷ record { node = b; ratio = whole (negsuc 0) } ∷ []; law = law; group = 0; owner = owner }

-- a resistance and a reactance in series, with no skin coefficients: k is 0 and m is 1
abbrev pub series : Ratio → Ratio → Law
series r x = Series r (whole (pos 0)) (whole (pos 1)) x (whole (pos 0))

-- the same with the skin coefficients of an element
abbrev pub skin_series : Ratio → ℤ → ℤ → Ratio → Law
skin_series r k m x = Series r (as_written k) (as_written m) x (whole (pos 0))

-- an element that adds nothing
abbrev pub open_circuit : Expansion
open_circuit = record { inner = 0; branches = [] }

-- branches from a bus to ground, one for each law, and no inner node
abbrev pub grounded_at : ℕ → List Law → ℕ → Expansion
grounded_at bus laws owner = record { inner = 0; branches = map (λ law. to_ground bus law owner) laws }

-- a law where a test holds, else none
abbrev pub law_where : Bool → Law → List Law
law_where true law = law ∷ []
law_where false law = []
