-- The places of nodes in the order, and of the pairs of a branch's taps.
use Rattle.std.proofs.Common.{◌≡◌, ℕ, zero, suc, ◌<◌, ◌≤◌, Bool, true, false, List, [], ◌∷◌, ◌++◌, length, map, get_or, refl, sym, subst, ap, arith, Option, inl, inr}
use Rattle.std.proofs.lemmas.Option.{slice_get_within}
use Rattle.std.specs.Prelude.{Some, None, IsSome, IfSome, is_some, slice_get, ◌==◌, ◌||◌, if◌then◌else◌}
use Rattle.std.specs.List.{AllByRecursion}
use Rattle.std.specs.Option.{option_map}
use Rattle.complex_interval.specs.Ends.{Ends, range_ends, mul_ends}
use Rattle.network_theory.specs.Branch.{Tap, Branch}
use Rattle.network_theory.specs.Network.{Network}
use Rattle.network_theory.specs.Live.{Live}
use Rattle.network_theory.specs.Nodal.{ListsLive}
use Rattle.network_theory.proofs.Bridge.{contains_among, among_contains}
use Rattle.network_theory.proofs.Carried.{IsAmong}
use Rattle.admittance_box.specs.declared.group_taps.RowProducts.{RowProducts}
use Rattle.admittance_box.specs.declared.intervals.BranchIntervals.{BranchIntervals}
use Rattle.admittance_box.specs.declared.intervals.BranchIntervals.TheVariants.{Dead as DeadIntervals, Absent as AbsentIntervals, Joined as JoinedIntervals, Grouped as GroupedIntervals}
use Rattle.admittance_box.specs.declared.intervals.TapProduct.{TapProduct}
use Rattle.admittance_box.specs.Addends.{LawEnds, PlacedTap, TapPair, PairRow, PairRows, Addend, Dead, Absent, Joined, Grouped, tap_between, taps_between, pair_between, pairs_with, tap_pairs, has_place, joined, law_between, addend_between, live_taps, pair_row, group_pairs, grouped, group_between, place_in_group, first_addend, addends_between}
use Rattle.admittance_box.specs.Coupling.{CouplingEnds, law_coupling}
use Rattle.admittance_box.specs.Filled.{IsRowWithin, IsWithin}
use Rattle.admittance_box.specs.Intervals.{pair_ends, row_ends, addend_of}
use Rattle.admittance_box.specs.Places.{place_of}
use Rattle.admittance_box.specs.Steps.{◌>>=◌}
use Rattle.admittance_box.proofs.GroupPairs.{row_pairs, rows_pairs}
use Rattle.admittance_box.proofs.HeldEntries.{some_suc}
use Rattle.admittance_box.proofs.LivePlaces.{place-among}
use Rattle.admittance_box.proofs.Steps.{bind-some}

-- ---- nodes
-- the node at its place
pub place-get : (ordering : List ℕ) (n i : ℕ) → place_of ordering n ≡ Some i → slice_get ordering i ≡ Some n
place-get [] n i e = absurd cc
place-get (m ∷ ordering) n i e = go (m == n) refl e (λ j k. place-get ordering n j k)
  where
    go : (t : Bool) → (m == n) ≡ t → (if t then Some 0 else option_map suc (place_of ordering n)) ≡ Some i → ((j : ℕ) → place_of ordering n ≡ Some j → slice_get ordering j ≡ Some n) → slice_get (m ∷ ordering) i ≡ Some n
    go true q k more =
        let at : m ≡ n = grind arith in
        let first : 0 ≡ i = grind arith in
        subst (λ j. slice_get (m ∷ ordering) j ≡ Some n) first (ap Some at)
    go false q k more =
        let (j, pj, is) = some_suc (place_of ordering n) i k in
        subst (λ l. slice_get (m ∷ ordering) l ≡ Some n) is (more j pj)

pub place-below : (ordering : List ℕ) (n i : ℕ) → place_of ordering n ≡ Some i → i < length ordering
place-below ordering n i e = slice_get_within ordering i n (place-get ordering n i e)

among_at : (ordering : List ℕ) (i n : ℕ) → slice_get ordering i ≡ Some n → IsAmong n ordering
among_at [] i n e = absurd cc
among_at (m ∷ ordering) zero n e = inl (let q : m ≡ n = grind arith in sym q)
among_at (m ∷ ordering) (suc i) n e = inr (among_at ordering i n e)

-- a node has a place exactly where it is live
pub place_live : (network : Network) (ordering : List ℕ) (n : ℕ) (o : Option ℕ) → ListsLive network ordering → o ≡ place_of ordering n → (IsSome o → Live network n) × (Live network n → IsSome o)
place_live network ordering n None l e = (λ h. absurd cc, λ v. let has = place-among n ordering (contains_among n ordering ((l.live n).0 v)) in let same : is_some (place_of ordering n) ≡ false = ap is_some (sym e) in absurd cc)
place_live network ordering n (Some i) l e = (λ h. (l.live n).1 (among_contains n ordering (among_at ordering i n (place-get ordering n i (sym e)))), λ v. refl)

pub place_is : (ordering : List ℕ) (n : ℕ) (o : Option ℕ) → o ≡ place_of ordering n → IfSome o (λ place. slice_get ordering place ≡ Some n)
place_is ordering n None e = tt
place_is ordering n (Some i) e = place-get ordering n i (sym e)

-- ---- pairs of taps
abbrev Below : ℕ → TapPair → Type 0
Below size p = (p.row < size) × (p.column < size)

all-append : (size : ℕ) (xs ys : List TapPair) → AllByRecursion (Below size) xs → AllByRecursion (Below size) ys → AllByRecursion (Below size) (xs ++ ys)
all-append size [] ys a b = b
all-append size (x ∷ xs) ys a b = (a.0, all-append size xs ys a.1 b)

module _ (s : ℕ) (ordering : List ℕ) where
  pub tap_below : (t u : Tap) (p : PlacedTap) → tap_between s ordering t u ≡ Some p → p.place < length ordering
  tap_below t u p e =
      let (place, e1, n1) = bind-some (place_of ordering t.node) _ p e in
      let (ratio, e2, e3) = bind-some (range_ends s t.ratio u.ratio) (λ r. Some (record { place = place; ratio = r })) p n1 in
      let is : record { place = place; ratio = ratio } ≡ p = cc in
      subst (λ (q : PlacedTap). q.place < length ordering) is (place-below ordering t.node place e1)

  pub taps_below : (ts us : List Tap) (placed : List PlacedTap) → taps_between s ordering ts us ≡ Some placed → AllByRecursion (λ p. p.place < length ordering) placed
  taps_below [] us placed e = let is : [] ≡ placed = cc in subst (AllByRecursion (λ (p : PlacedTap). p.place < length ordering)) is tt
  taps_below (t ∷ ts) [] placed e = absurd cc
  taps_below (t ∷ ts) (u ∷ us) placed e =
      let (tap, e1, n1) = bind-some _ _ placed e in
      let (taps, e2, e3) = bind-some _ _ placed n1 in
      let is : tap ∷ taps ≡ placed = cc in
      subst (AllByRecursion (λ (p : PlacedTap). p.place < length ordering)) is (tap_below t u tap e1, taps_below ts us taps e2)

  pair_below : (t u : PlacedTap) (p : TapPair) → t.place < length ordering → u.place < length ordering → pair_between s t u ≡ Some p → Below (length ordering) p
  pair_below t u p h k e =
      let (factor, e1, e2) = bind-some (mul_ends s t.ratio u.ratio) (λ f. Some (record { row = t.place; column = u.place; factor = f })) p e in
      let is : record { row = t.place; column = u.place; factor = factor } ≡ p = cc in
      subst (Below (length ordering)) is (h, k)

  row_below : (t : PlacedTap) (us : List PlacedTap) (pairs : List TapPair) → t.place < length ordering → AllByRecursion (λ p. p.place < length ordering) us → pairs_with s t us ≡ Some pairs → AllByRecursion (Below (length ordering)) pairs
  row_below t [] pairs h a e = let is : [] ≡ pairs = cc in subst (AllByRecursion (Below (length ordering))) is tt
  row_below t (u ∷ us) pairs h a e =
      let (pair, e1, n1) = bind-some _ _ pairs e in
      let (rest, e2, e3) = bind-some _ _ pairs n1 in
      let is : pair ∷ rest ≡ pairs = cc in
      subst (AllByRecursion (Below (length ordering))) is (pair_below t u pair h a.0 e1, row_below t us rest h a.1 e2)

  pub pairs_below : (ts us : List PlacedTap) (pairs : List TapPair) → AllByRecursion (λ p. p.place < length ordering) ts → AllByRecursion (λ p. p.place < length ordering) us → tap_pairs s ts us ≡ Some pairs → AllByRecursion (Below (length ordering)) pairs
  pairs_below [] us pairs a b e = let is : [] ≡ pairs = cc in subst (AllByRecursion (Below (length ordering))) is tt
  pairs_below (t ∷ ts) us pairs a b e =
      let (row, e1, n1) = bind-some _ _ pairs e in
      let (rest, e2, e3) = bind-some _ _ pairs n1 in
      let is : row ++ rest ≡ pairs = cc in
      subst (AllByRecursion (Below (length ordering))) is (all-append (length ordering) row rest (row_below t us row a.0 b e1) (pairs_below ts us rest a.1 b e2))

  -- the pairs of a row of a group, and of what a branch adds
  abbrev RowBelow : PairRow → Type 0
  RowBelow row = AllByRecursion (Below (length ordering)) row.first × AllByRecursion (Below (length ordering)) row.second × AllByRecursion (Below (length ordering)) row.third

  abbrev AddendBelow : Addend → Type 0
  AddendBelow Dead = Unit {0}
  AddendBelow Absent = Unit {0}
  AddendBelow (Joined law pairs) = AllByRecursion (Below (length ordering)) pairs
  AddendBelow (Grouped values rows) = RowBelow rows.first × RowBelow rows.second × RowBelow rows.third

  abbrev TapsBelow : List PlacedTap → Type 0
  TapsBelow taps = AllByRecursion (λ p. p.place < length ordering) taps

  addend_below : (a b : Branch) → AddendBelow (addend_between s ordering a b)
  addend_below a b = by_place (has_place ordering a.taps)
    where
      by_pairs : (l : LawEnds) (taps : List PlacedTap) → TapsBelow taps → (o : Option (List TapPair)) → tap_pairs s taps taps ≡ o → AddendBelow (joined (Some l) o)
      by_pairs l taps h None k = tt
      by_pairs l taps h (Some pairs) k = pairs_below taps taps pairs h h k

      by_taps : (l : Option LawEnds) (o : Option (List PlacedTap)) → taps_between s ordering a.taps b.taps ≡ o → AddendBelow (joined l (o >>= (λ taps. tap_pairs s taps taps)))
      by_taps None o k = tt
      by_taps (Some l) None k = tt
      by_taps (Some l) (Some taps) k = by_pairs l taps (taps_below a.taps b.taps taps k) (tap_pairs s taps taps) refl

      by_place : (t : Bool) → AddendBelow (if t then joined (law_between s a.law b.law) (taps_between s ordering a.taps b.taps >>= (λ taps. tap_pairs s taps taps)) else Dead)
      by_place true = by_taps (law_between s a.law b.law) (taps_between s ordering a.taps b.taps) refl
      by_place false = tt

  live_below : (a b : Branch) (taps : List PlacedTap) → live_taps s ordering a b ≡ Some taps → TapsBelow taps
  live_below a b taps e = go (has_place ordering a.taps) e
    where
      go : (t : Bool) → (if t then taps_between s ordering a.taps b.taps else Some []) ≡ Some taps → TapsBelow taps
      go true k = taps_below a.taps b.taps taps k
      go false k = let is : [] ≡ taps = cc in subst TapsBelow is tt

  group_row_below : (taps xs bs cs : List PlacedTap) (row : PairRow) → TapsBelow taps → TapsBelow xs → TapsBelow bs → TapsBelow cs → pair_row s taps xs bs cs ≡ Some row → RowBelow row
  group_row_below taps xs bs cs row h ha hb hc e =
      let (k1, k2, k3) = row_pairs s taps xs bs cs row e in
      (pairs_below taps xs row.first h ha k1, pairs_below taps bs row.second h hb k2, pairs_below taps cs row.third h hc k3)

  group_below : (a b c a' b' c' : Branch) → AddendBelow (group_between s ordering a b c a' b' c')
  group_below a b c a' b' c' = by_place (has_place ordering a.taps || has_place ordering b.taps || has_place ordering c.taps)
    where
      by_pairs : (values : Option CouplingEnds) (o : Option PairRows) → group_pairs s ordering a b c a' b' c' ≡ o → AddendBelow (grouped values o)
      by_pairs None o k = tt
      by_pairs (Some values) None k = tt
      by_pairs (Some values) (Some rows) k =
          let (xs, e1, n1) = bind-some _ _ rows k in
          let (bs, e2, n2) = bind-some _ _ rows n1 in
          let (cs, e3, n3) = bind-some _ _ rows n2 in
          let ha = live_below a a' xs e1 in
          let hb = live_below b b' bs e2 in
          let hc = live_below c c' cs e3 in
          let (k1, k2, k3) = rows_pairs s xs bs cs rows n3 in
          (group_row_below xs xs bs cs rows.first ha ha hb hc k1, group_row_below bs xs bs cs rows.second hb ha hb hc k2, group_row_below cs xs bs cs rows.third hc ha hb hc k3)

      by_place : (t : Bool) → AddendBelow (if t then grouped (law_coupling s a.law a'.law) (group_pairs s ordering a b c a' b' c') else Dead)
      by_place true = by_pairs (law_coupling s a.law a'.law) (group_pairs s ordering a b c a' b' c') refl
      by_place false = tt

  first_below : (place : Option ℕ) (a : Branch) (xs : List Branch) (b : Branch) (bs : List Branch) → AddendBelow (first_addend s ordering place a xs b bs)
  first_below None a xs b bs = addend_below a b
  first_below (Some zero) a [] a' bs = tt
  first_below (Some zero) a (b ∷ []) a' bs = tt
  first_below (Some zero) a (b ∷ c ∷ xs) a' [] = tt
  first_below (Some zero) a (b ∷ c ∷ xs) a' (b' ∷ []) = tt
  first_below (Some zero) a (b ∷ c ∷ xs) a' (b' ∷ c' ∷ bs) = group_below a b c a' b' c'
  first_below (Some (suc place)) a xs b bs = tt

  module _ {E : Type 0} (ends : E → Ends) where
    items_below : (ps : List (TapProduct E)) → AllByRecursion (Below (length ordering)) (map (pair_ends ends) ps) → (k : ℕ) (d : TapProduct E) → k < length ps → (get_or ps k d).row < length ordering × (get_or ps k d).column < length ordering
    items_below [] h k d l = absurd (omega arith)
    items_below (p ∷ ps) h zero d l = h.0
    items_below (p ∷ ps) h (suc k) d l = items_below ps h.1 k d (omega arith)

    row_within : (row : RowProducts E) → RowBelow (row_ends ends row) → IsRowWithin (length ordering) row
    row_within row h = record { first = items_below row.first.items h.0; second = items_below row.second.items h.1; third = items_below row.third.items h.2 }

    branch_within : (x : BranchIntervals E) → AddendBelow (addend_of ends x) → IsWithin (length ordering) x
    branch_within DeadIntervals h = tt
    branch_within AbsentIntervals h = tt
    branch_within (JoinedIntervals law pairs) h = items_below pairs.items h
    branch_within (GroupedIntervals group) h =
        let rows = group.value.products in
        record { first = row_within rows.first h.0; second = row_within rows.second h.1; third = row_within rows.third h.2 }

    -- the pairs of each branch have places in the matrix
    pub branches_within : (ls hs : List Branch) (xs : List (BranchIntervals E)) → map (addend_of ends) xs ≡ addends_between s ordering ls hs → (k : ℕ) (d : BranchIntervals E) → k < length xs → IsWithin (length ordering) (get_or xs k d)
    branches_within ls hs [] e k d l = absurd (omega arith)
    branches_within [] hs (x ∷ xs) e k d l = absurd cc
    branches_within (a ∷ ls) [] (x ∷ xs) e k d l = absurd cc
    branches_within (a ∷ ls) (b ∷ hs) (x ∷ xs) e zero d l =
        let first : first_addend s ordering (place_in_group a.law) a ls b hs ≡ addend_of ends x = cc in
        branch_within x (subst AddendBelow first (first_below (place_in_group a.law) a ls b hs))
    branches_within (a ∷ ls) (b ∷ hs) (x ∷ xs) e (suc k) d l = let rest : map (addend_of ends) xs ≡ addends_between s ordering ls hs = cc in branches_within ls hs xs rest k d (omega arith)

    -- and there are as many as in the networks
    pub branches_count : (ls hs : List Branch) (xs : List (BranchIntervals E)) → map (addend_of ends) xs ≡ addends_between s ordering ls hs → length xs ≤ length ls
    branches_count ls hs [] e = omega arith
    branches_count [] hs (x ∷ xs) e = absurd cc
    branches_count (a ∷ ls) [] (x ∷ xs) e = absurd cc
    branches_count (a ∷ ls) (b ∷ hs) (x ∷ xs) e = let rest : map (addend_of ends) xs ≡ addends_between s ordering ls hs = cc in let more = branches_count ls hs xs rest in omega arith
