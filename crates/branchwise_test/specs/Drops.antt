-- The drops of a pair of networks over a box of orders, on pairs of ends. The drop of some taps is the sum of their nodes' voltages, each times its tap's ratio.
use Rattle.std.specs.Prelude.{ℕ, zero, suc, pos, ◌*ℤ◌, int_lt, Bool, ◌&&◌, ◌||◌, List, [], ◌∷◌, ◌++◌, slice_get, slice_set, Option, Some, None, if◌then◌else◌}
use Rattle.std.specs.Ordering.{int_eq}
use Rattle.exact_algebra.specs.Ratio.{Ratio, whole}
use Rattle.complex_interval.specs.Ends.{Ends, range_ends, sub_ends}
use Rattle.complex_interval.specs.Rectangles.{Rectangle, add_rectangles, sub_rectangles, scale_rectangle}
use Rattle.network_theory.specs.Branch.{Law, Coupled3, Coupling, Branch}
use Rattle.plain_elimination.specs.Matrix.{nought_rectangle}
use Rattle.middle_inverse.specs.Inverse.{middle_point}
use Rattle.middle_inverse.specs.Lists.{each}
use Rattle.admittance_box.specs.Addends.{LawEnds, OfShunt, PlacedTap, TapPair, law_between, taps_between, tap_pairs, has_place, live_taps, place_in_group}
use Rattle.admittance_box.specs.BoxMatrix.{law_rectangle, with_pairs}
use Rattle.admittance_box.specs.Exact.{zero_ends, one_ends}
use Rattle.admittance_box.specs.Steps.{◌>>=◌}
use Rattle.branchwise_laws.specs.Pairs.{apart_law, common_law}

-- a branch of live nodes: the intervals of its law, its taps by the places of their nodes, and the pairs of its taps with the products of their ratios
pub record LiveBranch : Type 0 where
  pub law : LawEnds
  pub taps : List PlacedTap
  pub pairs : List TapPair

abbrev pub live_branch : ℕ → List ℕ → Branch → Branch → Option LiveBranch
live_branch s ordering a b = do
  law ← law_between s a.law b.law
  taps ← taps_between s ordering a.taps b.taps
  pairs ← tap_pairs s taps taps
  Some (record { law = law; taps = taps; pairs = pairs })

-- ---- groups of three
-- the two are equal in value
abbrev pub is_same : Ratio → Ratio → Bool
is_same x y = int_eq (x.num *ℤ pos (suc y.den_less_one)) (y.num *ℤ pos (suc x.den_less_one))

-- so for each value of two couplings
abbrev pub are_same : Coupling → Coupling → Bool
are_same c d =
    is_same c.self_r d.self_r && is_same c.self_x d.self_x && is_same c.mutual_r d.mutual_r && is_same c.x_ab d.x_ab && is_same c.x_bc d.x_bc && is_same c.x_ca d.x_ca && is_same c.k d.k && is_same c.m d.m

-- and for the mutual reactances of a coupling
abbrev pub is_even : Coupling → Bool
is_even c = is_same c.x_bc c.x_ab && is_same c.x_ca c.x_ab

-- the values of a group, where they are the same in both networks, with equal mutual reactances
abbrev pub even_between : Law → Law → Option Coupling
even_between (Coupled3 place c) (Coupled3 place' d) = if is_even c && are_same c d then Some c else None
even_between _ _ = None

-- a tap with the opposite ratio
abbrev pub opposed_tap : PlacedTap → Option PlacedTap
opposed_tap t = do
  ratio ← sub_ends zero_ends t.ratio
  Some (record { place = t.place; ratio = ratio })

-- a branch with this law and these taps
abbrev pub branch_with : ℕ → LawEnds → List PlacedTap → Option LiveBranch
branch_with s law taps = do
  pairs ← tap_pairs s taps taps
  Some (record { law = law; taps = taps; pairs = pairs })

-- such a group by the taps of its three branches: a branch for each difference of two phases, and one for the sum of all. One that has no taps counts nowhere.
abbrev pub four_branches : ℕ → Coupling → List PlacedTap → List PlacedTap → List PlacedTap → Option (List LiveBranch)
four_branches s values xs ys zs = do
  apart ← law_between s (apart_law values) (apart_law values)
  common ← law_between s (common_law values) (common_law values)
  less_ys ← each opposed_tap ys
  less_zs ← each opposed_tap zs
  ab ← branch_with s apart (xs ++ less_ys)
  bc ← branch_with s apart (ys ++ less_zs)
  ac ← branch_with s apart (xs ++ less_zs)
  all ← branch_with s common (xs ++ ys ++ zs)
  Some (ab ∷ bc ∷ ac ∷ all ∷ [])

-- a group of three from one network to the other, if one of its branches has live nodes: its taps at dead nodes are left out. No value for any other values.
abbrev pub live_group : ℕ → List ℕ → Branch → Branch → Branch → Branch → Branch → Branch → Option (List LiveBranch)
live_group s ordering a b c a' b' c' = do
  values ← even_between a.law a'.law
  xs ← live_taps s ordering a a'
  ys ← live_taps s ordering b b'
  zs ← live_taps s ordering c c'
  four_branches s values xs ys zs

abbrev pub group_if_live : ℕ → List ℕ → Branch → Branch → Branch → Branch → Branch → Branch → Option (List LiveBranch)
group_if_live s ordering a b c a' b' c' = if has_place ordering a.taps || has_place ordering b.taps || has_place ordering c.taps then live_group s ordering a b c a' b' c' else Some []

-- that of this branch and the next two; less than three branches, with which no whole network ends, are no group
abbrev pub first_group : ℕ → List ℕ → Branch → List Branch → Branch → List Branch → Option (List LiveBranch)
first_group s ordering a (b ∷ c ∷ xs) a' (b' ∷ c' ∷ bs) = group_if_live s ordering a b c a' b' c'
first_group s ordering a _ a' _ = None

-- those of a branch, by its place in a group and the branches after it: a group goes as one, at its first branch
abbrev pub first_live : ℕ → List ℕ → Option ℕ → Branch → List Branch → Branch → List Branch → Option (List LiveBranch)
first_live s ordering None a xs b bs = if has_place ordering a.taps then live_branch s ordering a b >>= (λ l. Some (l ∷ [])) else Some []
first_live s ordering (Some zero) a xs b bs = first_group s ordering a xs b bs
first_live s ordering (Some (suc place)) a xs b bs = Some []

-- the branches of live nodes in order, from one network to the other; no value where a number or a product of one has no interval
abbrev pub live_branches : ℕ → List ℕ → List Branch → List Branch → Option (List LiveBranch)
live_branches s ordering [] bs = Some []
live_branches s ordering (a ∷ xs) [] = Some []
live_branches s ordering (a ∷ xs) (b ∷ bs) = do
  here ← first_live s ordering (place_in_group a.law) a xs b bs
  more ← live_branches s ordering xs bs
  Some (here ++ more)

-- a Shunt of susceptance e to ground at the node of this place: one tap, of ratio 1
abbrev pub extra_branch : ℕ → ℕ → Ratio → Option LiveBranch
extra_branch s place e = do
  susceptance ← range_ends s e e
  one ← range_ends s (whole (pos 1)) (whole (pos 1))
  pairs ← tap_pairs s (record { place = place; ratio = one } ∷ []) (record { place = place; ratio = one } ∷ [])
  Some (record { law = OfShunt susceptance; taps = record { place = place; ratio = one } ∷ []; pairs = pairs })

-- the branches with that one after all others, where e is above 0
abbrev pub with_extra_branch : ℕ → ℕ → Ratio → List LiveBranch → Option (List LiveBranch)
with_extra_branch s place e branches = if int_lt (pos 0) e.num then extra_branch s place e >>= (λ extra. Some (branches ++ extra ∷ [])) else Some branches

-- a drop: its taps with their pairs, and the sums of the middles and of the rests of the admittances that count at it
pub record DropEnds : Type 0 where
  pub taps : List PlacedTap
  pub pairs : List TapPair
  pub middle : Rectangle
  pub rest : Rectangle

-- the tap of a node alone
abbrev pub node_tap : ℕ → ℕ → PlacedTap
node_tap s place = record { place = place; ratio = one_ends s }

-- the drop of a node alone, at which nothing counts yet
abbrev pub node_drop : ℕ → ℕ → Option DropEnds
node_drop s place = do
  pairs ← tap_pairs s (node_tap s place ∷ []) (node_tap s place ∷ [])
  Some (record { taps = node_tap s place ∷ []; pairs = pairs; middle = nought_rectangle; rest = nought_rectangle })

-- those of so many nodes, from this place on
abbrev pub node_drops : ℕ → ℕ → ℕ → Option (List DropEnds)
node_drops s place zero = Some []
node_drops s place (suc count) = do
  d ← node_drop s place
  ds ← node_drops s (suc place) count
  Some (d ∷ ds)

-- a drop at which an admittance more counts, times a factor
abbrev pub raised : ℕ → Rectangle → Rectangle → Ends → DropEnds → Option DropEnds
raised s middle rest factor d = do
  m ← scale_rectangle s middle factor
  r ← scale_rectangle s rest factor
  middles ← add_rectangles d.middle m
  rests ← add_rectangles d.rest r
  Some (record { taps = d.taps; pairs = d.pairs; middle = middles; rest = rests })

-- A branch of one tap, and so of one pair, counts at the drop of its node, times the square of the ratio. One of more taps has a drop of its own, after those before it.
abbrev pub counted : ℕ → Rectangle → Rectangle → List PlacedTap → List TapPair → List DropEnds → Option (List DropEnds)
counted s middle rest taps [] drops = Some drops
counted s middle rest taps (p ∷ []) drops = do
  d ← slice_get drops p.row
  more ← raised s middle rest p.factor d
  Some (slice_set drops p.row more)
counted s middle rest taps (p ∷ q ∷ pairs) drops = Some (drops ++ record { taps = taps; pairs = p ∷ q ∷ pairs; middle = middle; rest = rest } ∷ [])

-- so for a branch, whose admittance over the orders of an interval is the point in its middle and the rest
abbrev pub with_branch : ℕ → Ends → LiveBranch → List DropEnds → Option (List DropEnds)
with_branch s h b drops = do
  y ← law_rectangle s h b.law
  rest ← sub_rectangles y (middle_point y)
  counted s (middle_point y) rest b.taps b.pairs drops

-- the drops of nodes in their ordering with what each branch counts at them, then those of branches
abbrev pub with_branches : ℕ → Ends → List LiveBranch → List DropEnds → Option (List DropEnds)
with_branches s h [] drops = Some drops
with_branches s h (b ∷ bs) drops = with_branch s h b drops >>= with_branches s h bs

-- the rows with the middle of each drop, for each pair of its taps
abbrev pub with_middles : ℕ → List DropEnds → List (List Rectangle) → Option (List (List Rectangle))
with_middles s [] rows = Some rows
with_middles s (d ∷ ds) rows = with_pairs s d.middle d.pairs rows >>= with_middles s ds
