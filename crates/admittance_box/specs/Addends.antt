-- What the branches of a pair of networks add to a matrix: the intervals of their numbers, from one network to the other.
use Rattle.std.specs.Prelude.{ℕ, zero, suc, Bool, false, ◌||◌, is_some, List, [], ◌∷◌, ◌++◌, Option, Some, None, if◌then◌else◌}
use Rattle.std.specs.Option.{option_map}
use Rattle.complex_interval.specs.Ends.{Ends, range_ends, mul_ends}
use Rattle.network_theory.specs.Branch.{Tap, Law, Series, Shunt, Coupled3, Branch}
use Rattle.admittance_box.specs.Admittance.{SeriesEnds}
use Rattle.admittance_box.specs.Coupling.{CouplingEnds, law_coupling}
use Rattle.admittance_box.specs.Places.{place_of}
use Rattle.admittance_box.specs.Series.{series_between}
use Rattle.admittance_box.specs.Steps.{◌>>=◌}

-- a law by the intervals of its numbers
pub data LawEnds : Type 0 where
  OfSeries : SeriesEnds → LawEnds
  OfShunt : Ends → LawEnds

-- a tap by the place of its node and the interval of its ratio
pub record PlacedTap : Type 0 where
  pub place : ℕ
  pub ratio : Ends

-- a pair of taps by the places of their nodes and the product of the intervals of their ratios
pub record TapPair : Type 0 where
  pub row : ℕ
  pub column : ℕ
  pub factor : Ends

-- the pairs of one branch's taps with those of each branch of its group
pub record PairRow : Type 0 where
  pub first : List TapPair
  pub second : List TapPair
  pub third : List TapPair

-- so for each branch of a group
pub record PairRows : Type 0 where
  pub first : PairRow
  pub second : PairRow
  pub third : PairRow

-- what a branch adds: nothing where its nodes are dead, or where the first branch of its group adds for it; no value where a number or a product of taps has no interval; else its admittance for each pair of its taps, or those of its group for each pair of taps of each two of the group's branches
pub data Addend : Type 0 where
  Dead : Addend
  Absent : Addend
  Joined : LawEnds → List TapPair → Addend
  Grouped : CouplingEnds → PairRows → Addend

-- a law from one to the other of the same kind
abbrev pub law_between : ℕ → Law → Law → Option LawEnds
law_between s (Series r k m x xc) (Series r' k' m' x' xc') = option_map OfSeries (series_between s r k m x xc r' k' m' x' xc')
law_between s (Shunt b) (Shunt b') = option_map OfShunt (range_ends s b b')
law_between s _ _ = None

abbrev pub tap_between : ℕ → List ℕ → Tap → Tap → Option PlacedTap
tap_between s ordering t u = do
  place ← place_of ordering t.node
  ratio ← range_ends s t.ratio u.ratio
  Some (record { place = place; ratio = ratio })

-- the taps of a branch, from one network to the other
abbrev pub taps_between : ℕ → List ℕ → List Tap → List Tap → Option (List PlacedTap)
taps_between s ordering [] us = Some []
taps_between s ordering (t ∷ ts) [] = None
taps_between s ordering (t ∷ ts) (u ∷ us) = do
  tap ← tap_between s ordering t u
  taps ← taps_between s ordering ts us
  Some (tap ∷ taps)

-- the pair of two taps
abbrev pub pair_between : ℕ → PlacedTap → PlacedTap → Option TapPair
pair_between s t u = do
  factor ← mul_ends s t.ratio u.ratio
  Some (record { row = t.place; column = u.place; factor = factor })

-- the pairs of a tap with each of these
abbrev pub pairs_with : ℕ → PlacedTap → List PlacedTap → Option (List TapPair)
pairs_with s t [] = Some []
pairs_with s t (u ∷ us) = do
  pair ← pair_between s t u
  pairs ← pairs_with s t us
  Some (pair ∷ pairs)

-- the pairs of taps in order, rows first
abbrev pub tap_pairs : ℕ → List PlacedTap → List PlacedTap → Option (List TapPair)
tap_pairs s [] us = Some []
tap_pairs s (t ∷ ts) us = do
  row ← pairs_with s t us
  rows ← tap_pairs s ts us
  Some (row ++ rows)

-- some tap's node has a place, which live nodes have
abbrev pub has_place : List ℕ → List Tap → Bool
has_place ordering [] = false
has_place ordering (t ∷ taps) = is_some (place_of ordering t.node) || has_place ordering taps

abbrev pub joined : Option LawEnds → Option (List TapPair) → Addend
joined (Some law) (Some pairs) = Joined law pairs
joined (Some law) None = Absent
joined None pairs = Absent

-- what a branch of its own adds, from one network to the other
abbrev pub addend_between : ℕ → List ℕ → Branch → Branch → Addend
addend_between s ordering a b = if has_place ordering a.taps then joined (law_between s a.law b.law) (taps_between s ordering a.taps b.taps >>= (λ taps. tap_pairs s taps taps)) else Dead

-- ---- groups of three
-- the taps of a branch of a group: none where its nodes are dead
abbrev pub live_taps : ℕ → List ℕ → Branch → Branch → Option (List PlacedTap)
live_taps s ordering a b = if has_place ordering a.taps then taps_between s ordering a.taps b.taps else Some []

-- the pairs of these taps with those of each branch of the group
abbrev pub pair_row : ℕ → List PlacedTap → List PlacedTap → List PlacedTap → List PlacedTap → Option PairRow
pair_row s taps xs bs cs = do
  first ← tap_pairs s taps xs
  second ← tap_pairs s taps bs
  third ← tap_pairs s taps cs
  Some (record { first = first; second = second; third = third })

-- the pairs of taps of each two branches of a group
abbrev pub pair_rows : ℕ → List PlacedTap → List PlacedTap → List PlacedTap → Option PairRows
pair_rows s xs bs cs = do
  first ← pair_row s xs xs bs cs
  second ← pair_row s bs xs bs cs
  third ← pair_row s cs xs bs cs
  Some (record { first = first; second = second; third = third })

-- so by the taps of three branches, from one network to the other
abbrev pub group_pairs : ℕ → List ℕ → Branch → Branch → Branch → Branch → Branch → Branch → Option PairRows
group_pairs s ordering a b c a' b' c' = do
  xs ← live_taps s ordering a a'
  bs ← live_taps s ordering b b'
  cs ← live_taps s ordering c c'
  pair_rows s xs bs cs

abbrev pub grouped : Option CouplingEnds → Option PairRows → Addend
grouped (Some values) (Some pairs) = Grouped values pairs
grouped (Some values) None = Absent
grouped None pairs = Absent

-- what a group adds, if one of its branches has live nodes: the values are those of its first branch, which the others share
abbrev pub group_between : ℕ → List ℕ → Branch → Branch → Branch → Branch → Branch → Branch → Addend
group_between s ordering a b c a' b' c' =
    if has_place ordering a.taps || has_place ordering b.taps || has_place ordering c.taps then grouped (law_coupling s a.law a'.law) (group_pairs s ordering a b c a' b' c') else Dead

-- what the group of this branch and the next two adds; less than three branches, with which no whole network ends, are no group
abbrev pub first_group : ℕ → List ℕ → Branch → List Branch → Branch → List Branch → Addend
first_group s ordering a (b ∷ c ∷ xs) a' (b' ∷ c' ∷ bs) = group_between s ordering a b c a' b' c'
first_group s ordering a _ a' _ = Absent

-- the place of a branch in its group, if it belongs to one
abbrev pub place_in_group : Law → Option ℕ
place_in_group (Coupled3 place c) = Some place
place_in_group (Series r k m x xc) = None
place_in_group (Shunt b) = None

-- what a branch adds, by its place in a group and the branches after it: a group goes as one, at its first branch
abbrev pub first_addend : ℕ → List ℕ → Option ℕ → Branch → List Branch → Branch → List Branch → Addend
first_addend s ordering None a xs b bs = addend_between s ordering a b
first_addend s ordering (Some zero) a xs b bs = first_group s ordering a xs b bs
first_addend s ordering (Some (suc place)) a xs b bs = Dead

-- what each branch adds
abbrev pub addends_between : ℕ → List ℕ → List Branch → List Branch → List Addend
addends_between s ordering [] bs = []
addends_between s ordering (a ∷ xs) [] = []
addends_between s ordering (a ∷ xs) (b ∷ bs) = first_addend s ordering (place_in_group a.law) a xs b bs ∷ addends_between s ordering xs bs
