-- Drops as they are laid out for a pair of networks, and the estimate by what counts at them.
use Rattle.std.proofs.Common.{◌≡◌, ◌∙◌, ℕ, zero, suc, ◌+◌, ◌-◌, ◌<◌, ◌≤◌, Bool, true, false, List, [], ◌∷◌, ◌++◌, length, map, pos, Option, Some, None, Result, Err, refl, sym, ap, subst, arith}
use Rattle.std.specs.Prelude.{◌||◌, if◌then◌else◌}
use Rattle.std.specs.List.{All, AllByRecursion}
use Rattle.std.proofs.lemmas.List.Elements.{All-nil, All-cons}
use Rattle.exact_algebra.specs.Ratio.{Ratio, whole}
use Rattle.complex_interval.specs.Ends.{Ends, range_ends, sub_ends}
use Rattle.network_theory.specs.Branch.{Branch, Coupling}
use Rattle.admittance_box.specs.declared.intervals.TapProduct.{TapProduct}
use Rattle.middle_inverse.specs.Lists.{and_then, each}
use Rattle.certified_inverse.proofs.Rows.{and_then-some}
use Rattle.admittance_box.specs.Addends.{LawEnds, PlacedTap, TapPair, law_between, taps_between, tap_pairs, has_place, live_taps, place_in_group}
use Rattle.admittance_box.specs.Exact.{zero_ends, one_ends}
use Rattle.admittance_box.specs.Intervals.{pair_ends}
use Rattle.admittance_box.specs.Orders.{order_ends}
use Rattle.admittance_box.specs.Steps.{◌>>=◌}
use Rattle.admittance_box.proofs.PairPlaces.{taps_below, pairs_below}
use Rattle.admittance_box.proofs.Ranges.{one_ends-is, one_times_one}
use Rattle.admittance_box.proofs.Steps.{bind-some, value_is}
use Rattle.branchwise_laws.specs.Pairs.{apart_law, common_law}
use Rattle.branchwise_test.specs.declared.fault.BranchwiseFault.{BranchwiseFault}
use Rattle.branchwise_test.specs.declared.fault.BranchwiseFault.TheVariants.{OutOfRange}
use Rattle.branchwise_test.specs.Drops.{LiveBranch, DropEnds, node_drops, live_branch, opposed_tap, branch_with, even_between, four_branches, live_group, group_if_live, first_live, live_branches, with_extra_branch, with_branches}
use Rattle.branchwise_test.specs.Enclosed.{valued, Near, near_of_drops, near_of, near_of_branches}
use Rattle.drop_bench.specs.declared.drops.DropIntervals.{DropIntervals}
use Rattle.drop_bench.specs.Drops.{drop_ends, bare, IsInside}
use Rattle.branchwise_bench.specs.Layout.{bare_nodes, own_drop, own_drops, counted_all, IsPairInside, AreInside}
use Rattle.branchwise_bench.proofs.Counting.{nodes_count}

-- ---- places
abbrev Inside : ℕ → DropEnds → Type 0
Inside n d = AllByRecursion (IsPairInside n) d.pairs

all-append : (n : ℕ) (xs ys : List DropEnds) → AllByRecursion (Inside n) xs → AllByRecursion (Inside n) ys → AllByRecursion (Inside n) (xs ++ ys)
all-append n [] ys a b = b
all-append n (x ∷ xs) ys a b = (a.0, all-append n xs ys a.1 b)

nodes_inside : (s n place count : ℕ) → place + count ≤ n → AllByRecursion (Inside n) (bare_nodes s place count)
nodes_inside s n place zero l = tt
nodes_inside s n place (suc count) l = (((omega arith, omega arith), tt), nodes_inside s n (suc place) count (omega arith))

own_inside : (n : ℕ) (taps : List PlacedTap) (pairs : List TapPair) (others : List DropEnds) → AllByRecursion (IsPairInside n) pairs → AllByRecursion (Inside n) others → AllByRecursion (Inside n) (own_drop taps pairs others)
own_inside n taps [] others a b = b
own_inside n taps (p ∷ []) others a b = b
own_inside n taps (p ∷ q ∷ pairs) others a b = (a, b)

owns_inside : (n : ℕ) (bs : List LiveBranch) → AreInside n bs → AllByRecursion (Inside n) (own_drops bs)
owns_inside n [] a = tt
owns_inside n (b ∷ bs) a = own_inside n b.taps b.pairs (own_drops bs) a.0 (owns_inside n bs a.1)

module _ {E : Type 0} (ends : E → Ends) (n : ℕ) where
  pairs_inside : (ps : List (TapProduct E)) → AllByRecursion (IsPairInside n) (map (pair_ends ends) ps) → All (λ p. (p.row < n) × (p.column < n)) ps
  pairs_inside [] a = All-nil (λ (p : TapProduct E). (p.row < n) × (p.column < n))
  pairs_inside (p ∷ ps) a = All-cons (λ (p : TapProduct E). (p.row < n) × (p.column < n)) p ps a.0 (pairs_inside ps a.1)

  drops_inside : (ds : List (DropIntervals E)) → AllByRecursion (Inside n) (map bare (map (drop_ends ends) ds)) → All (IsInside n) ds
  drops_inside [] a = All-nil (IsInside n)
  drops_inside (d ∷ ds) a = All-cons (IsInside n) d ds (pairs_inside d.pairs.items a.0) (drops_inside ds a.1)

  pub laid_inside : (s : ℕ) (bs : List LiveBranch) (ds : List (DropIntervals E)) → map bare (map (drop_ends ends) ds) ≡ bare_nodes s 0 n ++ own_drops bs → AreInside n bs → All (IsInside n) ds
  laid_inside s bs ds e a = drops_inside ds (subst (AllByRecursion (Inside n)) (sym e) (all-append n (bare_nodes s 0 n) (own_drops bs) (nodes_inside s n 0 n (omega arith)) (owns_inside n bs a)))

-- the pairs of live branches
module _ (s : ℕ) (ordering : List ℕ) where
  live_pairs : (a b : Branch) (l : LiveBranch) → live_branch s ordering a b ≡ Some l → AllByRecursion (IsPairInside (length ordering)) l.pairs
  live_pairs a b l e = go (law_between s a.law b.law) (taps_between s ordering a.taps b.taps) (taps_below s ordering a.taps b.taps) e
    where
      go : (o : Option LawEnds) (p : Option (List PlacedTap)) → ((taps : List PlacedTap) → p ≡ Some taps → AllByRecursion (λ t. t.place < length ordering) taps)
          → (o >>= (λ law. p >>= (λ taps. tap_pairs s taps taps >>= (λ pairs. Some (record { law = law; taps = taps; pairs = pairs }))))) ≡ Some l → AllByRecursion (IsPairInside (length ordering)) l.pairs
      go None p below e = absurd cc
      go (Some law) None below e = absurd cc
      go (Some law) (Some taps) below e =
          let (pairs, e3, n3) = bind-some (tap_pairs s taps taps) (λ pairs. Some (record { law = law; taps = taps; pairs = pairs })) l e in
          let is : record { law = law; taps = taps; pairs = pairs } ≡ l = cc in
          subst (λ (k : LiveBranch). AllByRecursion (IsPairInside (length ordering)) k.pairs) is (pairs_below s ordering taps taps pairs (below taps refl) (below taps refl) e3)

  -- ---- those of groups
  abbrev Below : List PlacedTap → Type 0
  Below taps = AllByRecursion (λ (t : PlacedTap). t.place < length ordering) taps

  live_below : (a c : Branch) (taps : List PlacedTap) → live_taps s ordering a c ≡ Some taps → Below taps
  live_below a c taps e = go (has_place ordering a.taps) e
    where
      go : (t : Bool) → (if t then taps_between s ordering a.taps c.taps else Some []) ≡ Some taps → Below taps
      go true q = taps_below s ordering a.taps c.taps taps q
      go false q = let is : [] ≡ taps = cc in subst Below is tt

  below_append : (xs ys : List PlacedTap) → Below xs → Below ys → Below (xs ++ ys)
  below_append [] ys a b = b
  below_append (x ∷ xs) ys a b = (a.0, below_append xs ys a.1 b)

  opposed_below : (xs ys : List PlacedTap) → Below xs → each opposed_tap xs ≡ Some ys → Below ys
  opposed_below [] ys b e = let is : [] ≡ ys = cc in subst Below is tt
  opposed_below (x ∷ xs) ys b e =
      let (y, e1, n1) = and_then-some (opposed_tap x) (λ y. and_then (each opposed_tap xs) (λ ys. Some (y ∷ ys))) ys e in
      let (rest, e2, n2) = and_then-some (each opposed_tap xs) (λ ys. Some (y ∷ ys)) ys n1 in
      let (ratio, e3, n3) = bind-some (sub_ends zero_ends x.ratio) (λ ratio. Some (record { place = x.place; ratio = ratio })) y e1 in
      let same : record { place = x.place; ratio = ratio } ≡ y = cc in
      let is : y ∷ rest ≡ ys = cc in
      subst Below is (subst (λ (t : PlacedTap). t.place < length ordering) same b.0, opposed_below xs rest b.1 e2)

  with_inside : (law : LawEnds) (taps : List PlacedTap) (l : LiveBranch) → Below taps → branch_with s law taps ≡ Some l → AllByRecursion (IsPairInside (length ordering)) l.pairs
  with_inside law taps l below e =
      let (pairs, e1, n1) = bind-some (tap_pairs s taps taps) (λ pairs. Some (record { law = law; taps = taps; pairs = pairs })) l e in
      let is : record { law = law; taps = taps; pairs = pairs } ≡ l = cc in
      subst (λ (k : LiveBranch). AllByRecursion (IsPairInside (length ordering)) k.pairs) is (pairs_below s ordering taps taps pairs below below e1)

  four_inside : (values : Coupling) (xs ys zs : List PlacedTap) (four : List LiveBranch) → Below xs → Below ys → Below zs → four_branches s values xs ys zs ≡ Some four → AreInside (length ordering) four
  four_inside values xs ys zs four bx by bz e =
      let (apart, e1, n1) = bind-some _ _ four e in
      let (common, e2, n2) = bind-some _ _ four n1 in
      let (less_ys, e3, n3) = bind-some _ _ four n2 in
      let (less_zs, e4, n4) = bind-some _ _ four n3 in
      let (ab, e5, n5) = bind-some _ _ four n4 in
      let (bc, e6, n6) = bind-some _ _ four n5 in
      let (ac, e7, n7) = bind-some _ _ four n6 in
      let (sum, e8, n8) = bind-some _ _ four n7 in
      by_steps apart common less_ys less_zs ab bc ac sum e1 e2 e3 e4 e5 e6 e7 e8 (value_is _ _ n8)
    where
      by_steps : (apart common : LawEnds) (less_ys less_zs : List PlacedTap) (ab bc ac sum : LiveBranch) → law_between s (apart_law values) (apart_law values) ≡ Some apart → law_between s (common_law values) (common_law values) ≡ Some common
          → each opposed_tap ys ≡ Some less_ys → each opposed_tap zs ≡ Some less_zs → branch_with s apart (xs ++ less_ys) ≡ Some ab → branch_with s apart (ys ++ less_zs) ≡ Some bc → branch_with s apart (xs ++ less_zs) ≡ Some ac
          → branch_with s common (xs ++ ys ++ zs) ≡ Some sum → ab ∷ bc ∷ ac ∷ sum ∷ [] ≡ four → AreInside (length ordering) four
      by_steps apart common less_ys less_zs ab bc ac sum e1 e2 e3 e4 e5 e6 e7 e8 is =
          let oy = opposed_below ys less_ys by e3 in
          let oz = opposed_below zs less_zs bz e4 in
          subst (AreInside (length ordering)) is (
            with_inside apart (xs ++ less_ys) ab (below_append xs less_ys bx oy) e5,
            (
              with_inside apart (ys ++ less_zs) bc (below_append ys less_zs by oz) e6,
              (with_inside apart (xs ++ less_zs) ac (below_append xs less_zs bx oz) e7, (with_inside common (xs ++ ys ++ zs) sum (below_append (xs ++ ys) zs (below_append xs ys bx by) bz) e8, tt)),
            ),
          )

  live_group_inside : (a b c a' b' c' : Branch) (here : List LiveBranch) → live_group s ordering a b c a' b' c' ≡ Some here → AreInside (length ordering) here
  live_group_inside a b c a' b' c' here q =
      let (values, e1, n1) = bind-some (even_between a.law a'.law) (λ values. live_taps s ordering a a' >>= (λ xs. live_taps s ordering b b' >>= (λ ys. live_taps s ordering c c' >>= (λ zs. four_branches s values xs ys zs)))) here q in
      let (xs, e2, n2) = bind-some (live_taps s ordering a a') (λ xs. live_taps s ordering b b' >>= (λ ys. live_taps s ordering c c' >>= (λ zs. four_branches s values xs ys zs))) here n1 in
      let (ys, e3, n3) = bind-some (live_taps s ordering b b') (λ ys. live_taps s ordering c c' >>= (λ zs. four_branches s values xs ys zs)) here n2 in
      let (zs, e4, n4) = bind-some (live_taps s ordering c c') (λ zs. four_branches s values xs ys zs) here n3 in
      four_inside values xs ys zs here (live_below a a' xs e2) (live_below b b' ys e3) (live_below c c' zs e4) n4

  group_inside : (a b c a' b' c' : Branch) (here : List LiveBranch) → group_if_live s ordering a b c a' b' c' ≡ Some here → AreInside (length ordering) here
  group_inside a b c a' b' c' here e = go (has_place ordering a.taps || has_place ordering b.taps || has_place ordering c.taps) e
    where
      go : (t : Bool) → (if t then live_group s ordering a b c a' b' c' else Some []) ≡ Some here → AreInside (length ordering) here
      go true q = live_group_inside a b c a' b' c' here q
      go false q = let is : [] ≡ here = cc in subst (AreInside (length ordering)) is tt

  first_inside : (place : Option ℕ) (a c : Branch) (ls hs : List Branch) (here : List LiveBranch) → first_live s ordering place a ls c hs ≡ Some here → AreInside (length ordering) here
  first_inside None a c ls hs here e = go (has_place ordering a.taps) e
    where
      go : (t : Bool) → (if t then live_branch s ordering a c >>= (λ l. Some (l ∷ [])) else Some []) ≡ Some here → AreInside (length ordering) here
      go true q =
          let (l, e1, n1) = bind-some (live_branch s ordering a c) (λ l. Some (l ∷ [])) here q in
          let is : l ∷ [] ≡ here = cc in
          subst (AreInside (length ordering)) is (live_pairs a c l e1, tt)
      go false q = let is : [] ≡ here = cc in subst (AreInside (length ordering)) is tt
  first_inside (Some (suc k)) a c ls hs here e = let is : [] ≡ here = cc in subst (AreInside (length ordering)) is tt
  first_inside (Some zero) a c [] hs here e = absurd cc
  first_inside (Some zero) a c (b ∷ []) hs here e = absurd cc
  first_inside (Some zero) a c (b ∷ d ∷ ls) [] here e = absurd cc
  first_inside (Some zero) a c (b ∷ d ∷ ls) (b' ∷ []) here e = absurd cc
  first_inside (Some zero) a c (b ∷ d ∷ ls) (b' ∷ d' ∷ hs) here e = group_inside a b d c b' d' here e

  inside_append : (xs ys : List LiveBranch) → AreInside (length ordering) xs → AreInside (length ordering) ys → AreInside (length ordering) (xs ++ ys)
  inside_append [] ys a b = b
  inside_append (x ∷ xs) ys a b = (a.0, inside_append xs ys a.1 b)

  pub live_inside : (ls hs : List Branch) (bs : List LiveBranch) → live_branches s ordering ls hs ≡ Some bs → AreInside (length ordering) bs
  live_inside [] hs bs e = let is : [] ≡ bs = cc in subst (AreInside (length ordering)) is tt
  live_inside (a ∷ ls) [] bs e = let is : [] ≡ bs = cc in subst (AreInside (length ordering)) is tt
  live_inside (a ∷ ls) (c ∷ hs) bs e =
      let (here, e1, n1) = bind-some (first_live s ordering (place_in_group a.law) a ls c hs) (λ x. live_branches s ordering ls hs >>= (λ y. Some (x ++ y))) bs e in
      let (more, e2, n2) = bind-some (live_branches s ordering ls hs) (λ y. Some (here ++ y)) bs n1 in
      subst (AreInside (length ordering)) (value_is _ _ n2) (inside_append here more (first_inside (place_in_group a.law) a c ls hs here e1) (live_inside ls hs more e2))

-- ---- the ratio 1
pub one_range : (s : ℕ) → s ≤ 48 → range_ends s (whole (pos 1)) (whole (pos 1)) ≡ Some (one_ends s)
unfolding whole
one_range s small = one_ends-is s small

-- ---- the estimate
pub nodes_are : (s : ℕ) → s ≤ 48 → (place count : ℕ) → node_drops s place count ≡ Some (bare_nodes s place count)
nodes_are s small place zero = refl
nodes_are s small place (suc count) = rw (one_times_one s small, nodes_are s small (suc place) count) refl

one_near : (s n : ℕ) (h : Ends) (nodes : List DropEnds) (all : List LiveBranch) → length nodes ≡ n → near_of s h nodes all ≡ valued (with_branches s h all nodes) (near_of_drops s n)
unfolding near_of
one_near s n h nodes all e = ap (λ m. valued (with_branches s h all nodes) (near_of_drops s m)) e

pub near_counted : (s : ℕ) → s ≤ 48 → (n : ℕ) (bs : List LiveBranch) (e : Ratio) (lo hi : ℕ) → near_of_branches s n (Some bs) e lo hi ≡ valued (counted_all s (order_ends s lo hi) n e bs) (near_of_drops s n)
near_counted s small n bs e lo hi = rw (nodes_are s small 0 n) (go (with_extra_branch s (n - 1) e bs))
  where
    go : (o : Option (List LiveBranch)) → valued o (near_of s (order_ends s lo hi) (bare_nodes s 0 n)) ≡ valued (o >>= (λ all. with_branches s (order_ends s lo hi) all (bare_nodes s 0 n))) (near_of_drops s n)
    go (Some all) = one_near s n (order_ends s lo hi) (bare_nodes s 0 n) all (nodes_count s 0 n)
    go None = refl

pub near_by_count : (s : ℕ) → s ≤ 48 → (n : ℕ) (bs : List LiveBranch) (e : Ratio) (lo hi : ℕ) (h : Ends) (o : Option (List DropEnds)) → h ≡ order_ends s lo hi → o ≡ counted_all s h n e bs → valued o (near_of_drops s n) ≡ near_of_branches s n (Some bs) e lo hi
near_by_count s small n bs e lo hi h o k q =
    ap (λ (p : Option (List DropEnds)). valued p (near_of_drops s n)) (q ∙ ap (λ i. counted_all s i n e bs) k) ∙ sym (near_counted s small n bs e lo hi)

-- a pair whose branches have no intervals
pub no_branches : (s n : ℕ) (e : Ratio) (lo hi : ℕ) → Err OutOfRange ≡ near_of_branches s n None e lo hi
no_branches s n e lo hi = go (node_drops s 0 n)
  where
    go : (o : Option (List DropEnds)) → ◌≡◌ {A = Result Near BranchwiseFault} (Err OutOfRange) (valued o (λ nodes. Err OutOfRange))
    go (Some nodes) = refl
    go None = refl
