-- The matrix of a box is zero outside the pattern's spots.
use Rattle.std.proofs.Common.{◌≡◌, ◌∙◌, ℕ, zero, suc, ◌<◌, Bool, true, false, List, [], ◌∷◌, ◌++◌, length, replicate, refl, sym, ap, subst, arith}
use Rattle.std.specs.Prelude.{Option, Some, None, Ok, slice_get, slice_set, ◌||◌, if◌then◌else◌}
use Rattle.std.specs.List.{All, AllByRecursion, AllZip}
use Rattle.complex_interval.specs.Ends.{Ends, range_ends, mul_ends}
use Rattle.complex_interval.specs.Rectangles.{Rectangle, add_rectangles, scale_rectangle}
use Rattle.network_theory.specs.Branch.{Tap, Branch}
use Rattle.net_branch.proofs.Wholes.{each_append}
use Rattle.plain_elimination.specs.Matrix.{entry, set_entry, nought_rectangle}
use Rattle.plain_elimination.specs.declared.pattern.Spot.{Spot}
use Rattle.admittance_box.specs.Addends.{LawEnds, PlacedTap, TapPair, PairRow, PairRows, Dead, law_between, tap_between, taps_between, pairs_with, tap_pairs, has_place, joined, addend_between, live_taps, pair_row, pair_rows, group_pairs, grouped, group_between, place_in_group, first_addend, addends_between}
use Rattle.admittance_box.specs.Coupling.{CouplingEnds, Columns, law_coupling, coupling_columns}
use Rattle.admittance_box.specs.BoxMatrix.{law_rectangle, grown, with_pairs, with_pair_row, with_pair_rows, with_addend, or_branch, with_addends, nought_rows, box_matrix}
use Rattle.admittance_box.specs.Orders.{order_ends}
use Rattle.admittance_box.specs.Pattern.{spot_at, spots_with, tap_spots, row_spots, first_spots, branch_spots, MatrixIsZeroOutside}
use Rattle.admittance_box.specs.Places.{place_of}
use Rattle.admittance_box.specs.Steps.{◌>>=◌}
use Rattle.admittance_box.proofs.GroupPairs.{row_pairs, rows_pairs, row_steps}
use Rattle.admittance_box.proofs.HeldTaps.{no_pairs}
use Rattle.admittance_box.proofs.Steps.{bind-some}

-- ---- lists
set_elsewhere : {X : Type 0} (xs : List X) (i j : ℕ) (x : X) → ¬ (i ≡ j) → slice_get (slice_set xs i x) j ≡ slice_get xs j
set_elsewhere [] i j x h = refl
set_elsewhere (w ∷ xs) zero zero x h = absurd (h refl)
set_elsewhere (w ∷ xs) zero (suc j) x h = refl
set_elsewhere (w ∷ xs) (suc i) zero x h = refl
set_elsewhere (w ∷ xs) (suc i) (suc j) x h = set_elsewhere xs i j x (λ e. h (ap suc e))

entry_elsewhere : {X : Type 0} (rows : List (List X)) (r c i j : ℕ) (x : X) → (r ≡ i → c ≡ j → ⊥) → entry (set_entry rows r c x) i j ≡ entry rows i j
entry_elsewhere [] r c i j x h = refl
entry_elsewhere (w ∷ rows) zero c zero j x h = set_elsewhere w c j x (h refl)
entry_elsewhere (w ∷ rows) zero c (suc i) j x h = refl
entry_elsewhere (w ∷ rows) (suc r) c zero j x h = refl
entry_elsewhere (w ∷ rows) (suc r) c (suc i) j x h = entry_elsewhere rows r c i j x (λ e. h (ap suc e))

repeated : {X : Type 0} (n i : ℕ) (x : X) → i < n → slice_get (replicate n x) i ≡ Some x
repeated zero i x h = absurd (omega arith)
repeated (suc n) zero x h = refl
repeated (suc n) (suc i) x h = repeated n i x (omega arith)

repeated_rows : {X : Type 0} (m n i j : ℕ) (x : X) → i < m → j < n → entry (replicate m (replicate n x)) i j ≡ Some x
repeated_rows zero n i j x h k = absurd (omega arith)
repeated_rows (suc m) n zero j x h k = repeated n j x k
repeated_rows (suc m) n (suc i) j x h k = repeated_rows m n i j x (omega arith) k

by_recursion : {X : Type 0} (P : X → Type 0) (xs : List X) → All P xs → AllByRecursion P xs
by_recursion P [] all = tt
by_recursion P (x ∷ xs) all = (all 0 x (omega arith), by_recursion P xs (λ i d l. all (suc i) d (omega arith)))

first_part : {X : Type 0} (P : X → Type 0) (xs ys : List X) → AllByRecursion P (xs ++ ys) → AllByRecursion P xs
first_part P [] ys all = tt
first_part P (x ∷ xs) ys all = (all.0, first_part P xs ys all.1)

second_part : {X : Type 0} (P : X → Type 0) (xs ys : List X) → AllByRecursion P (xs ++ ys) → AllByRecursion P ys
second_part P [] ys all = all
second_part P (x ∷ xs) ys all = second_part P xs ys all.1

-- ---- taps by the places of their nodes
abbrev IsAt : List ℕ → PlacedTap → Tap → Type 0
IsAt ordering p t = place_of ordering t.node ≡ Some p.place

tap_placed : (s : ℕ) (ordering : List ℕ) (t u : Tap) (p : PlacedTap) → tap_between s ordering t u ≡ Some p → IsAt ordering p t
tap_placed s ordering t u p e =
    let (place, at, next) = bind-some _ _ p e in
    let (ratio, held, is) = bind-some (range_ends s t.ratio u.ratio) (λ ratio. Some (record { place = place; ratio = ratio })) p next in
    let same : record { place = place; ratio = ratio } ≡ p = cc in
    subst (λ (q : PlacedTap). IsAt ordering q t) same at

taps_placed : (s : ℕ) (ordering : List ℕ) (ts us : List Tap) (placed : List PlacedTap) → taps_between s ordering ts us ≡ Some placed → AllZip (IsAt ordering) placed ts
taps_placed s ordering [] us placed e = let none : [] ≡ placed = cc in subst (λ ps. AllZip (IsAt ordering) ps []) none tt
taps_placed s ordering (t ∷ ts) [] placed e = absurd cc
taps_placed s ordering (t ∷ ts) (u ∷ us) placed e =
    let (p, first, next) = bind-some _ _ placed e in
    let (ps, rest, is) = bind-some _ _ placed next in
    let same : p ∷ ps ≡ placed = cc in
    subst (λ qs. AllZip (IsAt ordering) qs (t ∷ ts)) same (tap_placed s ordering t u p first, taps_placed s ordering ts us ps rest)

-- ---- at a place that is none of the spots
module _ (i j : ℕ) where
  abbrev IsOther : TapPair → Type 0
  IsOther pair = pair.row ≡ i → pair.column ≡ j → ⊥

  abbrev IsOtherSpot : Spot → Type 0
  IsOtherSpot s = s.row ≡ i → s.column ≡ j → ⊥

  grown_other : (s : ℕ) (y : Rectangle) (pair : TapPair) (rows after : List (List Rectangle)) → IsOther pair → grown s y pair rows ≡ Some after → entry after i j ≡ entry rows i j
  grown_other s y pair rows after other e =
      let last = λ (sum : Rectangle). Some (set_entry rows pair.row pair.column sum) in
      let (more, e1, n1) = bind-some (scale_rectangle s y pair.factor) (λ more. entry rows pair.row pair.column >>= (λ before. add_rectangles before more >>= last)) after e in
      let (before, e2, n2) = bind-some (entry rows pair.row pair.column) (λ before. add_rectangles before more >>= last) after n1 in
      let (sum, e3, e4) = bind-some (add_rectangles before more) last after n2 in
      let same : set_entry rows pair.row pair.column sum ≡ after = cc in
      subst (λ (r : List (List Rectangle)). entry r i j ≡ entry rows i j) same (entry_elsewhere rows pair.row pair.column i j sum other)

  pairs_other : (s : ℕ) (y : Rectangle) (pairs : List TapPair) (rows after : List (List Rectangle)) → AllByRecursion IsOther pairs → with_pairs s y pairs rows ≡ Some after → entry after i j ≡ entry rows i j
  pairs_other s y [] rows after other e = let same : rows ≡ after = cc in ap (λ (r : List (List Rectangle)). entry r i j) (sym same)
  pairs_other s y (pair ∷ pairs) rows after other e =
      let (mid, first, rest) = bind-some (grown s y pair rows) (with_pairs s y pairs) after e in
      pairs_other s y pairs mid after other.1 rest ∙ grown_other s y pair rows mid other.0 first

  module _ (s : ℕ) (ordering : List ℕ) where
    with_other : (p : PlacedTap) (t : Tap) (qs : List PlacedTap) (us : List Tap) (pairs : List TapPair) → IsAt ordering p t → AllZip (IsAt ordering) qs us → pairs_with s p qs ≡ Some pairs
        → AllByRecursion IsOtherSpot (spots_with ordering (place_of ordering t.node) us) → AllByRecursion IsOther pairs
    with_other p t [] us pairs at zip e other = let none : [] ≡ pairs = cc in subst (AllByRecursion IsOther) none tt
    with_other p t (q ∷ qs) [] pairs at zip e other = absurd zip
    with_other p t (q ∷ qs) (u ∷ us) pairs at zip e other =
        let (pair, first, next) = bind-some _ _ pairs e in
        let (rest, more, is) = bind-some _ _ pairs next in
        let (factor, e1, e2) = bind-some {B = TapPair} (mul_ends s p.ratio q.ratio) (λ (factor : Ends). Some (record { row = p.place; column = q.place; factor = factor })) pair first in
        let same : record { row = p.place; column = q.place; factor = factor } ∷ rest ≡ pairs = cc in
        let spots = λ (row column : Option ℕ). AllByRecursion IsOtherSpot (spot_at row column) in
        let first_spots : spots (place_of ordering t.node) (place_of ordering u.node) = first_part IsOtherSpot (spot_at (place_of ordering t.node) (place_of ordering u.node)) (spots_with ordering (place_of ordering t.node) us) other in
        let here : spots (Some p.place) (Some q.place) = subst (λ o. spots (Some p.place) o) zip.0 (subst (λ o. spots o (place_of ordering u.node)) at first_spots) in
        subst (AllByRecursion IsOther) same (here.0, with_other p t qs us rest at zip.1 more (second_part IsOtherSpot (spot_at (place_of ordering t.node) (place_of ordering u.node)) (spots_with ordering (place_of ordering t.node) us) other))

    tap_pairs_other : (ps qs : List PlacedTap) (ts us : List Tap) (pairs : List TapPair) → AllZip (IsAt ordering) ps ts → AllZip (IsAt ordering) qs us → tap_pairs s ps qs ≡ Some pairs
        → AllByRecursion IsOtherSpot (tap_spots ordering ts us) → AllByRecursion IsOther pairs
    tap_pairs_other [] qs ts us pairs zp zq e other = let none : [] ≡ pairs = cc in subst (AllByRecursion IsOther) none tt
    tap_pairs_other (p ∷ ps) qs [] us pairs zp zq e other = absurd zp
    tap_pairs_other (p ∷ ps) qs (t ∷ ts) us pairs zp zq e other =
        let (row, first, next) = bind-some _ _ pairs e in
        let (rest, more, is) = bind-some _ _ pairs next in
        let same : row ++ rest ≡ pairs = cc in
        subst (AllByRecursion IsOther) same
        (each_append IsOther row rest
        (with_other p t qs us row zp.0 zq first (first_part IsOtherSpot (spots_with ordering (place_of ordering t.node) us) (tap_spots ordering ts us) other))
        (tap_pairs_other ps qs ts us rest zp.1 zq more (second_part IsOtherSpot (spots_with ordering (place_of ordering t.node) us) (tap_spots ordering ts us) other)))

    joined_other : (h : Ends) (a b : Branch) (law : Option LawEnds) (rows after : List (List Rectangle)) → AllByRecursion IsOtherSpot (tap_spots ordering a.taps a.taps)
        → with_addend s h (joined law (taps_between s ordering a.taps b.taps >>= (λ taps. tap_pairs s taps taps))) rows ≡ Some after → entry after i j ≡ entry rows i j
    joined_other h a b law rows after other = by law (taps_between s ordering a.taps b.taps) refl
      where
        by : (found : Option LawEnds) (placed : Option (List PlacedTap)) → taps_between s ordering a.taps b.taps ≡ placed → with_addend s h (joined found (placed >>= (λ taps. tap_pairs s taps taps))) rows ≡ Some after → entry after i j ≡ entry rows i j
        by None placed is e = absurd cc
        by (Some law) None is e = absurd cc
        by (Some law) (Some taps) is e = go (tap_pairs s taps taps) refl e
          where
            go : (pairs : Option (List TapPair)) → tap_pairs s taps taps ≡ pairs → with_addend s h (joined (Some law) pairs) rows ≡ Some after → entry after i j ≡ entry rows i j
            go None same e = absurd cc
            go (Some pairs) same e =
                let (y, first, rest) = bind-some (law_rectangle s h law) (λ y. with_pairs s y pairs rows) after e in
                let zip = taps_placed s ordering a.taps b.taps taps is in
                pairs_other s y pairs rows after (tap_pairs_other taps taps a.taps a.taps pairs zip zip same other) rest

    addend_other : (h : Ends) (a b : Branch) (rows after : List (List Rectangle)) → AllByRecursion IsOtherSpot (tap_spots ordering a.taps a.taps) → with_addend s h (addend_between s ordering a b) rows ≡ Some after → entry after i j ≡ entry rows i j
    addend_other h a b rows after other = by (has_place ordering a.taps)
      where
        by : (t : Bool) → with_addend s h (if t then joined (law_between s a.law b.law) (taps_between s ordering a.taps b.taps >>= (λ taps. tap_pairs s taps taps)) else Dead) rows ≡ Some after → entry after i j ≡ entry rows i j
        by true e = joined_other h a b (law_between s a.law b.law) rows after other e
        by false e = let same : rows ≡ after = cc in ap (λ (r : List (List Rectangle)). entry r i j) (sym same)

    -- ---- groups
    -- taps by the places of their nodes, or none
    data AreLocated : List PlacedTap → List Tap → Type 0 where
      located : (ps : List PlacedTap) (ts : List Tap) → AllZip (IsAt ordering) ps ts → AreLocated ps ts
      no_taps : (ts : List Tap) → AreLocated [] ts

    live_located : (a b : Branch) (taps : List PlacedTap) → live_taps s ordering a b ≡ Some taps → AreLocated taps a.taps
    live_located a b taps e = go (has_place ordering a.taps) e
      where
        go : (t : Bool) → (if t then taps_between s ordering a.taps b.taps else Some []) ≡ Some taps → AreLocated taps a.taps
        go true k = located taps a.taps (taps_placed s ordering a.taps b.taps taps k)
        go false k = let is : [] ≡ taps = cc in subst (λ ps. AreLocated ps a.taps) is (no_taps a.taps)

    located_other : (ps : List PlacedTap) (ts : List Tap) → AreLocated ps ts → (qs : List PlacedTap) (us : List Tap) → AreLocated qs us → (pairs : List TapPair) → tap_pairs s ps qs ≡ Some pairs → AllByRecursion IsOtherSpot (tap_spots ordering ts us) → AllByRecursion IsOther pairs
    located_other _ _ (located ps ts zp) _ _ (located qs us zq) pairs e other = tap_pairs_other ps qs ts us pairs zp zq e other
    located_other _ _ (located ps ts zp) _ _ (no_taps us) pairs e other = let empty = no_pairs s ps in let is : [] ≡ pairs = cc in subst (AllByRecursion IsOther) is tt
    located_other _ _ (no_taps ts) qs us lq pairs e other = let is : [] ≡ pairs = cc in subst (AllByRecursion IsOther) is tt

    module _ (columns : Columns) (xs bs cs : List PlacedTap) (a b c : Branch) (la : AreLocated xs a.taps) (lb : AreLocated bs b.taps) (lc : AreLocated cs c.taps) where
      row_other : (place : ℕ) (taps : List PlacedTap) (ts : List Tap) → AreLocated taps ts → (row : PairRow) → pair_row s taps xs bs cs ≡ Some row → AllByRecursion IsOtherSpot (row_spots ordering ts a b c)
          → (rows after : List (List Rectangle)) → with_pair_row s columns place row rows ≡ Some after → entry after i j ≡ entry rows i j
      row_other place taps ts lt row e other rows after g =
          let (k1, k2, k3) = row_pairs s taps xs bs cs row e in
          let t = row_steps s columns place row rows after g in
          let front = first_part IsOtherSpot (tap_spots ordering ts a.taps ++ tap_spots ordering ts b.taps) (tap_spots ordering ts c.taps) other in
          let o1 = located_other taps ts lt xs a.taps la row.first k1 (first_part IsOtherSpot (tap_spots ordering ts a.taps) (tap_spots ordering ts b.taps) front) in
          let o2 = located_other taps ts lt bs b.taps lb row.second k2 (second_part IsOtherSpot (tap_spots ordering ts a.taps) (tap_spots ordering ts b.taps) front) in
          let o3 = located_other taps ts lt cs c.taps lc row.third k3 (second_part IsOtherSpot (tap_spots ordering ts a.taps ++ tap_spots ordering ts b.taps) (tap_spots ordering ts c.taps) other) in
          pairs_other s t.c row.third t.two after o3 t.third ∙ pairs_other s t.b row.second t.one t.two o2 t.second ∙ pairs_other s t.a row.first rows t.one o1 t.first

      rows_other : (pairs : PairRows) → pair_rows s xs bs cs ≡ Some pairs → AllByRecursion IsOtherSpot (row_spots ordering a.taps a b c ++ row_spots ordering b.taps a b c ++ row_spots ordering c.taps a b c)
          → (rows after : List (List Rectangle)) → with_pair_rows s columns pairs rows ≡ Some after → entry after i j ≡ entry rows i j
      rows_other pairs e other rows after g =
          let (k1, k2, k3) = rows_pairs s xs bs cs pairs e in
          let ra = row_spots ordering a.taps a b c in
          let rb = row_spots ordering b.taps a b c in
          let rc = row_spots ordering c.taps a b c in
          let (two, g2, g3) = bind-some (with_pair_row s columns 0 pairs.first rows >>= with_pair_row s columns 1 pairs.second) (with_pair_row s columns 2 pairs.third) after g in
          let (one, g0, g1) = bind-some (with_pair_row s columns 0 pairs.first rows) (with_pair_row s columns 1 pairs.second) two g2 in
          let front = first_part IsOtherSpot (ra ++ rb) rc other in
          row_other 2 cs c.taps lc pairs.third k3 (second_part IsOtherSpot (ra ++ rb) rc other) two after g3
          ∙ row_other 1 bs b.taps lb pairs.second k2 (second_part IsOtherSpot ra rb front) one two g1
          ∙ row_other 0 xs a.taps la pairs.first k1 (first_part IsOtherSpot ra rb front) rows one g0

    group_other : (h : Ends) (a b c a' b' c' : Branch) (rows after : List (List Rectangle)) → AllByRecursion IsOtherSpot (row_spots ordering a.taps a b c ++ row_spots ordering b.taps a b c ++ row_spots ordering c.taps a b c)
        → with_addend s h (group_between s ordering a b c a' b' c') rows ≡ Some after → entry after i j ≡ entry rows i j
    group_other h a b c a' b' c' rows after other = by_place (has_place ordering a.taps || has_place ordering b.taps || has_place ordering c.taps)
      where
        by_pairs : (values : Option CouplingEnds) (pairs : Option PairRows) → group_pairs s ordering a b c a' b' c' ≡ pairs → with_addend s h (grouped values pairs) rows ≡ Some after → entry after i j ≡ entry rows i j
        by_pairs None pairs k e = absurd cc
        by_pairs (Some values) None k e = absurd cc
        by_pairs (Some values) (Some pairs) k e =
            let (columns, first, rest) = bind-some (coupling_columns s h values) (λ columns. with_pair_rows s columns pairs rows) after e in
            let (xs, e1, n1) = bind-some _ _ pairs k in
            let (bs, e2, n2) = bind-some _ _ pairs n1 in
            let (cs, e3, n3) = bind-some _ _ pairs n2 in
            rows_other columns xs bs cs a b c (live_located a a' xs e1) (live_located b b' bs e2) (live_located c c' cs e3) pairs n3 other rows after rest

        by_place : (t : Bool) → with_addend s h (if t then grouped (law_coupling s a.law a'.law) (group_pairs s ordering a b c a' b' c') else Dead) rows ≡ Some after → entry after i j ≡ entry rows i j
        by_place true e = by_pairs (law_coupling s a.law a'.law) (group_pairs s ordering a b c a' b' c') refl e
        by_place false e = let same : rows ≡ after = cc in ap (λ (r : List (List Rectangle)). entry r i j) (sym same)

    first_other : (h : Ends) (place : Option ℕ) (a : Branch) (xs : List Branch) (a' : Branch) (bs : List Branch) (rows after : List (List Rectangle)) → AllByRecursion IsOtherSpot (first_spots ordering place a xs)
        → with_addend s h (first_addend s ordering place a xs a' bs) rows ≡ Some after → entry after i j ≡ entry rows i j
    first_other h None a xs a' bs rows after other e = addend_other h a a' rows after other e
    first_other h (Some zero) a [] a' bs rows after other e = absurd cc
    first_other h (Some zero) a (b ∷ []) a' bs rows after other e = absurd cc
    first_other h (Some zero) a (b ∷ c ∷ xs) a' [] rows after other e = absurd cc
    first_other h (Some zero) a (b ∷ c ∷ xs) a' (b' ∷ []) rows after other e = absurd cc
    first_other h (Some zero) a (b ∷ c ∷ xs) a' (b' ∷ c' ∷ bs) rows after other e = group_other h a b c a' b' c' rows after other e
    first_other h (Some (suc place)) a xs a' bs rows after other e = let same : rows ≡ after = cc in ap (λ (r : List (List Rectangle)). entry r i j) (sym same)

    addends_other : (h : Ends) (k : ℕ) (xs bs : List Branch) (rows after : List (List Rectangle)) → AllByRecursion IsOtherSpot (branch_spots ordering xs) → with_addends s h k (addends_between s ordering xs bs) rows ≡ Ok after → entry after i j ≡ entry rows i j
    addends_other h k [] bs rows after other e = let same : rows ≡ after = cc in ap (λ (r : List (List Rectangle)). entry r i j) (sym same)
    addends_other h k (a ∷ xs) [] rows after other e = let same : rows ≡ after = cc in ap (λ (r : List (List Rectangle)). entry r i j) (sym same)
    addends_other h k (a ∷ xs) (b ∷ bs) rows after other e =
        go (with_addend s h (first_addend s ordering (place_in_group a.law) a xs b bs) rows) refl e
        (λ mid. addends_other h (suc k) xs bs mid after (second_part IsOtherSpot (first_spots ordering (place_in_group a.law) a xs) (branch_spots ordering xs) other))
      where
        go : (o : Option (List (List Rectangle))) → with_addend s h (first_addend s ordering (place_in_group a.law) a xs b bs) rows ≡ o → or_branch k o (with_addends s h (suc k) (addends_between s ordering xs bs)) ≡ Ok after
            → ((mid : List (List Rectangle)) → with_addends s h (suc k) (addends_between s ordering xs bs) mid ≡ Ok after → entry after i j ≡ entry mid i j) → entry after i j ≡ entry rows i j
        go None is e more = absurd cc
        go (Some mid) is e more = more mid e ∙ first_other h (place_in_group a.law) a xs b bs rows mid (first_part IsOtherSpot (first_spots ordering (place_in_group a.law) a xs) (branch_spots ordering xs) other) is

pub zero_outside : MatrixIsZeroOutside
unfolding box_matrix
zero_outside s low high ordering lo hi rows e row column in_rows in_columns none =
    addends_other row column s ordering (order_ends s lo hi) 0 low.branches high.branches (nought_rows (length ordering)) rows (by_recursion (IsOtherSpot row column) (branch_spots ordering low.branches) none) e
    ∙ repeated_rows (length ordering) (length ordering) row column nought_rectangle in_rows in_columns
