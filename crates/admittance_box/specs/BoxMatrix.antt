-- The nodal matrix over a box of orders, or the first branch at which it has no value.
use Rattle.std.specs.Prelude.{ℕ, suc, List, [], ◌∷◌, length, replicate, Option, Some, None, Result, Ok, Err, slice_get}
use Rattle.complex_interval.specs.Ends.{Ends}
use Rattle.complex_interval.specs.Rectangles.{Rectangle, add_rectangles, scale_rectangle}
use Rattle.network_theory.specs.Network.{Network}
use Rattle.plain_elimination.specs.Matrix.{nought_rectangle, entry, set_entry}
use Rattle.admittance_box.specs.Addends.{LawEnds, OfSeries, OfShunt, TapPair, PairRow, PairRows, Addend, Dead, Absent, Joined, Grouped, addends_between}
use Rattle.admittance_box.specs.Admittance.{series_admittance_rectangle, shunt_admittance_rectangle}
use Rattle.admittance_box.specs.Coupling.{Columns, coupling_columns}
use Rattle.admittance_box.specs.Orders.{order_ends}
use Rattle.admittance_box.specs.Steps.{◌>>=◌}

-- the admittance of a law over the orders of an interval
abbrev pub law_rectangle : ℕ → Ends → LawEnds → Option Rectangle
law_rectangle s h (OfSeries p) = series_admittance_rectangle s p h
law_rectangle s h (OfShunt b) = shunt_admittance_rectangle s b h

-- the entry of a pair of taps grows by y times their factor
abbrev pub grown : ℕ → Rectangle → TapPair → List (List Rectangle) → Option (List (List Rectangle))
grown s y pair rows = do
  more ← scale_rectangle s y pair.factor
  before ← entry rows pair.row pair.column
  sum ← add_rectangles before more
  Some (set_entry rows pair.row pair.column sum)

-- so for each pair in order
abbrev pub with_pairs : ℕ → Rectangle → List TapPair → List (List Rectangle) → Option (List (List Rectangle))
with_pairs s y [] rows = Some rows
with_pairs s y (pair ∷ pairs) rows = grown s y pair rows >>= with_pairs s y pairs

-- so with the admittances of one branch of a group, a row of the three columns, for each branch of the group
abbrev pub with_pair_row : ℕ → Columns → ℕ → PairRow → List (List Rectangle) → Option (List (List Rectangle))
with_pair_row s columns place row rows = do
  a ← slice_get columns.first place
  b ← slice_get columns.second place
  c ← slice_get columns.third place
  with_pairs s a row.first rows >>= with_pairs s b row.second >>= with_pairs s c row.third

-- so for each branch of a group
abbrev pub with_pair_rows : ℕ → Columns → PairRows → List (List Rectangle) → Option (List (List Rectangle))
with_pair_rows s columns pairs rows = with_pair_row s columns 0 pairs.first rows >>= with_pair_row s columns 1 pairs.second >>= with_pair_row s columns 2 pairs.third

-- the rows with what one branch adds
abbrev pub with_addend : ℕ → Ends → Addend → List (List Rectangle) → Option (List (List Rectangle))
with_addend s h Dead rows = Some rows
with_addend s h Absent rows = None
with_addend s h (Joined law pairs) rows = law_rectangle s h law >>= (λ y. with_pairs s y pairs rows)
with_addend s h (Grouped values pairs) rows = coupling_columns s h values >>= (λ columns. with_pair_rows s columns pairs rows)

-- the rows, if there are any, taken further; else the branch
abbrev pub or_branch : ℕ → Option (List (List Rectangle)) → (List (List Rectangle) → Result (List (List Rectangle)) ℕ) → Result (List (List Rectangle)) ℕ
or_branch i None further = Err i
or_branch i (Some rows) further = further rows

-- the rows with what each branch adds, from branch i on, or the first branch that leaves no value
abbrev pub with_addends : ℕ → Ends → ℕ → List Addend → List (List Rectangle) → Result (List (List Rectangle)) ℕ
with_addends s h i [] rows = Ok rows
with_addends s h i (a ∷ addends) rows = or_branch i (with_addend s h a rows) (with_addends s h (suc i) addends)

-- n rows of n zeros
abbrev pub nought_rows : ℕ → List (List Rectangle)
nought_rows n = replicate n (replicate n nought_rectangle)

-- the matrix of a pair of networks over the orders from lo to hi, in micro-orders, with the nodes in this ordering; or the first branch, counted from 0, at which it has no value
unfoldable pub box_matrix : ℕ → Network → Network → List ℕ → ℕ → ℕ → Result (List (List Rectangle)) ℕ
box_matrix s low high ordering lo hi = with_addends s (order_ends s lo hi) 0 (addends_between s ordering low.branches high.branches) (nought_rows (length ordering))
