-- Nodes that are marked as live.
use Rattle.std.specs.Prelude.{◌≡◌, ℕ, ◌<◌, Bool, false, not, IsTrue, List, length, get_or, count_by, All, Contains}
use Rattle.network_theory.specs.Live.{Live}
use Rattle.net_branch.specs.declared.network.Tap.{Tap}
use Rattle.net_branch.specs.declared.network.Branch.{Branch}
use Rattle.net_branch.specs.declared.network.Network.{Network}
use Rattle.net_branch.specs.Exact.{exact_network}

-- a node is marked
abbrev pub IsMarked : List Bool → ℕ → Type 0
IsMarked marks n = IsTrue (get_or marks n false)

-- the node of each tap is marked
abbrev pub AreMarked : List Bool → List Tap → Type 0
AreMarked marks taps = All (λ t. IsMarked marks t.node.number) taps

-- how many nodes aren't marked
abbrev pub unmarked : List Bool → ℕ
unmarked marks = count_by not marks

-- there is a value for the node of each tap
abbrev pub AreValued : List Bool → List Tap → Type 0
AreValued marks taps = All (λ t. t.node.number < length marks) taps

-- some tap is at the node
pub data HasTapAt (taps : List Tap) : ℕ → Type 0 where
  tap_at : (t : Tap) → Contains taps t → HasTapAt taps t.node.number

-- one tap, or a tap at a marked node
pub data IsReached (taps : List Tap) (marks : List Bool) : Type 0 where
  one : length taps ≡ 1 → IsReached taps marks
  beside : (t : Tap) → Contains taps t → IsMarked marks t.node.number → IsReached taps marks

-- where the branch is reached, the nodes of its taps are marked
abbrev pub IsFilled : List Bool → Branch → Type 0
IsFilled marks b = IsReached b.taps marks → AreMarked marks b.taps

-- each marked node is live
abbrev pub AreFound : Network → List Bool → Type 0
AreFound network marks = (n : ℕ) → IsMarked marks n → Live (exact_network network) n
