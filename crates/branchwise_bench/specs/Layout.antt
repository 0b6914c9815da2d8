-- How the drops of a pair of networks lie on a bench.
use Rattle.std.specs.Prelude.{◌≡◌, ℕ, zero, suc, ◌-◌, ◌<◌, pos, int_lt, List, [], ◌∷◌, Option, Some, slice_get, slice_set, if◌then◌else◌}
use Rattle.std.specs.List.{AllByRecursion}
use Rattle.exact_algebra.specs.Ratio.{Ratio}
use Rattle.complex_interval.specs.Ends.{Ends}
use Rattle.complex_interval.specs.Rectangles.{Rectangle}
use Rattle.plain_elimination.specs.Matrix.{nought_rectangle}
use Rattle.admittance_box.specs.Addends.{PlacedTap, TapPair}
use Rattle.admittance_box.specs.Exact.{one_ends}
use Rattle.admittance_box.specs.Steps.{◌>>=◌}
use Rattle.branchwise_test.specs.Drops.{LiveBranch, DropEnds, node_tap, raised, extra_branch, with_extra_branch, with_branch, with_branches}

-- the drop of a node alone
abbrev pub bare_node : ℕ → ℕ → DropEnds
bare_node s place = record { taps = node_tap s place ∷ []; pairs = record { row = place; column = place; factor = one_ends s } ∷ []; middle = nought_rectangle; rest = nought_rectangle }

-- those of so many nodes, from this place on
abbrev pub bare_nodes : ℕ → ℕ → ℕ → List DropEnds
bare_nodes s place zero = []
bare_nodes s place (suc count) = bare_node s place ∷ bare_nodes s (suc place) count

-- a branch of two taps or more, and so of two pairs or more, has a drop of its own, before those of others
abbrev pub own_drop : List PlacedTap → List TapPair → List DropEnds → List DropEnds
own_drop taps [] others = others
own_drop taps (p ∷ []) others = others
own_drop taps (p ∷ q ∷ pairs) others = record { taps = taps; pairs = p ∷ q ∷ pairs; middle = nought_rectangle; rest = nought_rectangle } ∷ others

abbrev pub own_drops : List LiveBranch → List DropEnds
own_drops [] = []
own_drops (b ∷ bs) = own_drop b.taps b.pairs (own_drops bs)

-- how many those are
abbrev pub own_count : List TapPair → ℕ
own_count [] = 0
own_count (p ∷ []) = 0
own_count (p ∷ q ∷ pairs) = 1

-- these drops begin with that of a branch, if it has one of its own
pub record BeginsWithOwn (b : LiveBranch) (drops : List DropEnds) : Type 0 where
  pub others : List DropEnds
  pub is : drops ≡ own_drop b.taps b.pairs others

-- an admittance more counts at the drop of a place, times a factor
abbrev pub raised_at : ℕ → Rectangle → Rectangle → Ends → ℕ → List DropEnds → Option (List DropEnds)
raised_at s middle rest factor place drops = do
  d ← slice_get drops place
  more ← raised s middle rest factor d
  Some (slice_set drops place more)

-- the drops with an extra susceptance at the node of a place, where it is above 0
abbrev pub with_extra : ℕ → Ends → ℕ → Ratio → List DropEnds → Option (List DropEnds)
with_extra s h place e drops = if int_lt (pos 0) e.num then extra_branch s place e >>= (λ b. with_branch s h b drops) else Some drops

-- the drops of so many nodes with what branches count at them and an extra susceptance at the last node, and then those of branches
abbrev pub counted_all : ℕ → Ends → ℕ → Ratio → List LiveBranch → Option (List DropEnds)
counted_all s h nodes e branches = with_extra_branch s (nodes - 1) e branches >>= (λ all. with_branches s h all (bare_nodes s 0 nodes))

-- the places of a pair of taps are below a size
abbrev pub IsPairInside : ℕ → TapPair → Type 0
IsPairInside size p = (p.row < size) × (p.column < size)

-- so for each pair of each branch
abbrev pub AreInside : ℕ → List LiveBranch → Type 0
AreInside size branches = AllByRecursion (λ b. AllByRecursion (IsPairInside size) b.pairs) branches
