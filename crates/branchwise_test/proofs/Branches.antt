-- The drops of a box hold those of each network between the two, and count each of its branches.
use Rattle.std.proofs.Common.{◌≡◌, ◌≢◌, ◌∙◌, ℕ, zero, suc, ◌+◌, ◌^◌, ◌<◌, Bool, true, false, List, [], ◌∷◌, ◌++◌, length, get_or, map, refl, sym, subst, ap, arith, pos, inl, inr}
use Rattle.std.specs.Prelude.{Option, Some, None, Contains, ◌||◌, ◌==◌, is_some, slice_get, slice_set, if◌then◌else◌}
use Rattle.std.specs.List.{AllZip, AllByRecursion}
use Rattle.std.specs.Option.{option_map}
use Rattle.std.proofs.lemmas.Bool.{eq-eqb}
use Rattle.std.proofs.lemmas.Int.{ints}
use Rattle.std.proofs.lemmas.List.{append-nil, append_assoc}
use Rattle.exact_algebra.specs.Ratio.{Ratio, whole, times, difference}
use Rattle.exact_algebra.specs.Complex.{Complex, complex_numbers, complex_difference, complex_over, real}
use Rattle.exact_algebra.proofs.Complexes.{complex_field}
use Rattle.exact_algebra.proofs.Reader.{reads, ring, linear, weigh, none_left}
use Rattle.complex_interval.specs.Ends.{Ends, Encloses, mul_ends}
use Rattle.complex_interval.specs.Rectangles.{Rectangle, EnclosesComplex, sub_rectangles}
use Rattle.complex_interval.proofs.RectangleLaws.{add_encloses_rectangle, sub_encloses_rectangle, scale_encloses_rectangle}
use Rattle.complex_interval.proofs.Held.{mul_encloses}
use Rattle.network_theory.specs.Order.{Order, fraction}
use Rattle.network_theory.specs.Branch.{Tap, Law, Series, Shunt, Coupled3, Coupling, SameCoupling, Branch}
use Rattle.network_theory.specs.Network.{Network, IsUncoupled, IsGroup, IsGrouped, done, alone as uncoupled_alone, group}
use Rattle.network_theory.specs.Between.{TapUpTo, LawUpTo, BranchUpTo}
use Rattle.network_theory.specs.Live.{Live, HasLiveNode}
use Rattle.network_theory.specs.Admittance.{Part, Alone, Group, IsAdmittance, IsGroupAdmittance, alone, group as with_group, IsSplit, end, one, three, EachLivePart}
use Rattle.network_theory.specs.Nodal.{IsDistinct, ListsLive}
use Rattle.network_theory.proofs.More.{up_to}
use Rattle.network_theory.proofs.Numbers.{R}
use Rattle.network_theory.proofs.Carried.{IsAmong}
use Rattle.network_theory.proofs.Couplings.{coupling_next}
use Rattle.network_theory.proofs.Bridge.{contains_among, among_contains}
use Rattle.plain_elimination.specs.Matrix.{nought_rectangle}
use Rattle.middle_inverse.specs.Inverse.{point_ends, middle_of, middle_point}
use Rattle.certified_inverse.proofs.Law.{low_held}
use Rattle.admittance_box.specs.Addends.{LawEnds, PlacedTap, TapPair, law_between, taps_between, pair_between, pairs_with, tap_pairs, has_place, place_in_group}
use Rattle.admittance_box.specs.BoxMatrix.{law_rectangle}
use Rattle.admittance_box.specs.Places.{place_of}
use Rattle.admittance_box.specs.Steps.{◌>>=◌}
use Rattle.admittance_box.proofs.HeldEntries.{some_suc}
use Rattle.admittance_box.proofs.HeldMatrices.{law_held, place_alone, place_of_group}
use Rattle.admittance_box.proofs.HeldPairs.{HoldsTap, taps_hold, along, scaled-is}
use Rattle.admittance_box.proofs.Laws.{nought_held}
use Rattle.admittance_box.proofs.LivePlaces.{place-among}
use Rattle.admittance_box.proofs.Ranges.{one_encloses}
use Rattle.admittance_box.proofs.Steps.{bind-some}
use Rattle.branchwise_laws.specs.Link.{Link, admittance, AtLive}
use Rattle.branchwise_laws.specs.Reach.{at_node}
use Rattle.branchwise_laws.specs.Pairs.{Pair, pair, itself, nine_pairs, opposed, four_pairs, apart_law, common_law, IsEven, IsPaired, end as no_pairs, alone as alone_pair, group as group_pairs, even as even_pairs, IsDead, Raises, AddsNothing, Count, dead, trimmed, own, at_its_node}
use Rattle.branchwise_laws.specs.Places.{NodesFirst}
use Rattle.branchwise_laws.specs.Bounds.{EachAt}
use Rattle.branchwise_laws.proofs.Each.{each_map}
use Rattle.branchwise_laws.proofs.Even.{even_matrix, even_admitted}
use Rattle.branchwise_laws.proofs.Identity.{all_among}
use Rattle.middle_inverse.specs.Lists.{each}
use Rattle.branchwise_test.specs.Drops.{LiveBranch, DropEnds, node_tap, node_drops, counted, with_branch, with_branches, live_branch, opposed_tap, branch_with, four_branches, live_group, group_if_live, first_live, live_branches}
use Rattle.branchwise_test.proofs.Even.{even_values, HasResistance, resistance_known, same_admitted}
use Rattle.branchwise_test.proofs.Four.{PhaseTaps, phase_taps, both_taps, opposed_taps, four_after}
use Rattle.branchwise_test.proofs.Zips.{zip_end}
open complex_numbers use {◌≈◌, nought, unit, ◌⊕◌, ◌⊗◌, minus}
open complex_field use {same, back, next}

same_value : {X : Type 0} (a b : X) → Some a ≡ Some b → a ≡ b
same_value a b e = cc

-- two taps or more have two pairs or more
two_pairs : (s : ℕ) (t u : PlacedTap) (taps : List PlacedTap) (pairs : List TapPair) → tap_pairs s (t ∷ u ∷ taps) (t ∷ u ∷ taps) ≡ Some pairs → (p : TapPair) × (q : TapPair) × (more : List TapPair) × (pairs ≡ p ∷ q ∷ more)
two_pairs s t u taps pairs e =
    let (row, e1, n1) = bind-some (pairs_with s t (t ∷ u ∷ taps)) (λ row. tap_pairs s (u ∷ taps) (t ∷ u ∷ taps) >>= (λ rows. Some (row ++ rows))) pairs e in
    let (rows, e2, n2) = bind-some (tap_pairs s (u ∷ taps) (t ∷ u ∷ taps)) (λ rows. Some (row ++ rows)) pairs n1 in
    let (p, e3, n3) = bind-some (pair_between s t t) (λ p. pairs_with s t (u ∷ taps) >>= (λ ps. Some (p ∷ ps))) row e1 in
    let (ps, e4, n4) = bind-some (pairs_with s t (u ∷ taps)) (λ ps. Some (p ∷ ps)) row n3 in
    let (q, e5, n5) = bind-some (pair_between s t u) (λ q. pairs_with s t taps >>= (λ qs. Some (q ∷ qs))) ps e4 in
    let (qs, e6, n6) = bind-some (pairs_with s t taps) (λ qs. Some (q ∷ qs)) ps n5 in
    let is_ps : ps ≡ q ∷ qs = sym (same_value (q ∷ qs) ps n6) in
    let is_row : row ≡ p ∷ ps = sym (same_value (p ∷ ps) row n4) in
    let is_all : pairs ≡ row ++ rows = sym (same_value (row ++ rows) pairs n2) in
    (p, q, qs ++ rows, is_all ∙ (ap (λ o. o ++ rows) is_row ∙ ap (λ o. (p ∷ o) ++ rows) is_ps))

-- ---- points
abbrev pub middle_number : ℕ → Rectangle → Complex
middle_number s a = complex_over (middle_of a.re) (middle_of a.im) (2 ^ s)

middle_held : (s : ℕ) (a : Rectangle) → EnclosesComplex s (middle_point a) (middle_number s a)
unfolding middle_point
middle_held s a = low_held s (record { re = point_ends (middle_of a.re); im = point_ends (middle_of a.im) }) (record { re = omega (arith, ints); im = omega (arith, ints) })

-- ---- places of nodes
pub places_are : (ordering : List ℕ) → IsDistinct ordering → EachAt (λ i n. place_of ordering n ≡ Some i) ordering
places_are [] d = tt
places_are (m ∷ ordering) d = (here m (eq-eqb m m refl), later ordering (λ i. i) d.0 (places_are ordering d.1))
  where
    here : (n : ℕ) → (m == n) ≡ true → place_of (m ∷ ordering) n ≡ Some 0
    here n e = rw e refl

    apart : (n : ℕ) (t : Bool) → (m == n) ≡ t → m ≢ n → t ≡ false
    apart n true e a = absurd (let q : m ≡ n = grind arith in a q)
    apart n false e a = refl

    after : (n i : ℕ) → m ≢ n → place_of ordering n ≡ Some i → place_of (m ∷ ordering) n ≡ Some (suc i)
    after n i a e = let k : (m == n) ≡ false = apart n (m == n) refl a in rw (k, e) refl

    later : (nodes : List ℕ) (P : ℕ → ℕ) → AllByRecursion (λ n. m ≢ n) nodes → EachAt (λ i n. place_of ordering n ≡ Some (P i)) nodes → EachAt (λ i n. place_of (m ∷ ordering) n ≡ Some (suc (P i))) nodes
    later [] P a h = tt
    later (n ∷ nodes) P a h = (after n (P 0) a.0 h.0, later nodes (λ i. P (suc i)) a.1 h.1)

module _ (s : ℕ) (ordering : List ℕ) (network : Network) (listed : ListsLive network ordering) where
  -- a drop holds the middle and the rest of a link, and its taps those of it
  pub record HoldsDrop (d : DropEnds) (l : Link) : Type 0 where
    pub taps : AllZip (HoldsTap s ordering) d.taps l.taps
    pub pairs : tap_pairs s d.taps d.taps ≡ Some d.pairs
    pub out : l.out ≡ l.taps
    pub live : AtLive network l.taps
    pub middle : EnclosesComplex s d.middle l.middle
    pub rest : EnclosesComplex s d.rest l.rest

  abbrev pub HoldDrops : List DropEnds → List Link → Type 0
  HoldDrops drops links = AllZip HoldsDrop drops links

  live_in : (n : ℕ) → IsAmong n ordering → Live network n
  live_in n i = (listed.live n).1 (among_contains n ordering i)

  -- ---- the drops of nodes
  abbrev pub node_link : ℕ → Link
  node_link n = record { out = at_node n; taps = at_node n; middle = nought; rest = nought; weight = whole (pos 0) }

  pub nodes_hold : (nodes : List ℕ) (from : ℕ) (drops : List DropEnds) → node_drops s from (length nodes) ≡ Some drops → EachAt (λ i n. place_of ordering n ≡ Some (from + i)) nodes → AllByRecursion (Live network) nodes → HoldDrops drops (map node_link nodes)
  nodes_hold [] from drops e p l = let is : [] ≡ drops = cc in subst (λ ds. HoldDrops ds []) is tt
  nodes_hold (n ∷ nodes) from drops e p l =
      let (d, e1, n1) = bind-some _ _ drops e in
      let (ds, e2, n2) = bind-some _ _ drops n1 in
      let (pairs, e3, n3) = bind-some _ _ d e1 in
      let is_d : record { taps = node_tap s from ∷ []; pairs = pairs; middle = nought_rectangle; rest = nought_rectangle } ≡ d = same_value _ _ n3 in
      let is : d ∷ ds ≡ drops = same_value _ _ n2 in
      subst (λ o. HoldDrops o (map node_link (n ∷ nodes))) is (
        subst (λ o. HoldsDrop o (node_link n)) is_d (record {
          taps = (record { place = subst (λ i. place_of ordering n ≡ Some i) (let z : from + 0 ≡ from = omega arith in z) p.0; ratio = one_encloses s }, tt);
          pairs = e3;
          out = refl;
          live = (l.0, tt);
          middle = nought_held s;
          rest = nought_held s;
        }),
        nodes_hold nodes (suc from) ds e2 (each_map (λ i m. place_of ordering m ≡ Some (from + suc i)) (λ i m. place_of ordering m ≡ Some (suc from + i)) (λ i m q. subst (λ j. place_of ordering m ≡ Some j) (let z : from + suc i ≡ suc from + i = omega arith in z) q) nodes p.1) l.1,
      )

  pub nodes_first : (nodes : List ℕ) → NodesFirst nodes (map node_link nodes)
  nodes_first [] = tt
  nodes_first (n ∷ nodes) = (refl, nodes_first nodes)

  pub nodes_add_nothing : (nodes : List ℕ) → AllByRecursion (Live network) nodes → AllByRecursion (AddsNothing network) (map node_link nodes)
  nodes_add_nothing [] l = tt
  nodes_add_nothing (n ∷ nodes) l = (record { live_out = (l.0, tt); live_taps = (l.0, tt); none = ring R [] (search reads depth 40 fits 4000) none_left }, nodes_add_nothing nodes l.1)

  pub all_live : AllByRecursion (Live network) ordering
  all_live = all_among (Live network) ordering live_in

  -- ---- one drop among others
  record Spot (nodes : List ℕ) (drops : List DropEnds) (links : List Link) (n i : ℕ) (d : DropEnds) : Type 0 where
    before : List Link
    link : Link
    after : List Link
    split : links ≡ before ++ link ∷ after
    node : link.taps ≡ at_node n
    here : HoldsDrop d link
    changed : (e : DropEnds) (l : Link) → l.taps ≡ link.taps → HoldsDrop e l → HoldDrops (slice_set drops i e) (before ++ l ∷ after) × NodesFirst nodes (before ++ l ∷ after)

  spot_of : (nodes : List ℕ) (drops : List DropEnds) (links : List Link) (n i : ℕ) (d : DropEnds) → place_of nodes n ≡ Some i → slice_get drops i ≡ Some d → HoldDrops drops links → NodesFirst nodes links → Spot nodes drops links n i d
  spot_of [] drops links n i d p g z f = absurd cc
  spot_of (m ∷ nodes) [] links n i d p g z f = absurd cc
  spot_of (m ∷ nodes) (e ∷ drops) [] n i d p g z f = absurd z
  spot_of (m ∷ nodes) (e ∷ drops) (l ∷ links) n i d p g z f = go (m == n) refl p (λ j p' g'. spot_of nodes drops links n j d p' g' z.1 f.1)
    where
      first : m ≡ n → e ≡ d → Spot (m ∷ nodes) (e ∷ drops) (l ∷ links) n 0 d
      first at is = record {
        before = [];
        link = l;
        after = links;
        split = refl;
        node = f.0 ∙ ap at_node at;
        here = subst (λ b. HoldsDrop b l) is z.0;
        changed = λ b k q h. ((h, z.1), (q ∙ f.0, f.1));
      }

      later : (j : ℕ) → Spot nodes drops links n j d → Spot (m ∷ nodes) (e ∷ drops) (l ∷ links) n (suc j) d
      later j r = record {
        before = l ∷ r.before;
        link = r.link;
        after = r.after;
        split = ap (λ ls. l ∷ ls) r.split;
        node = r.node;
        here = r.here;
        changed = λ b k q h. let c = r.changed b k q h in ((z.0, c.0), (f.0, c.1));
      }

      go : (t : Bool) → (m == n) ≡ t → (if t then Some 0 else option_map suc (place_of nodes n)) ≡ Some i → ((j : ℕ) → place_of nodes n ≡ Some j → slice_get drops j ≡ Some d → Spot nodes drops links n j d) → Spot (m ∷ nodes) (e ∷ drops) (l ∷ links) n i d
      go true k q more =
          let at : m ≡ n = grind arith in
          let zero_place : 0 ≡ i = grind arith in
          let is : slice_get (e ∷ drops) 0 ≡ Some d = subst (λ j. slice_get (e ∷ drops) j ≡ Some d) (sym zero_place) g in
          subst (λ j. Spot (m ∷ nodes) (e ∷ drops) (l ∷ links) n j d) zero_place (first at (same_one is))
        where
          same_one : Some e ≡ Some d → e ≡ d
          same_one q = cc
      go false k q more =
          let (j, pj, is) = some_suc (place_of nodes n) i q in
          subst (λ t. Spot (m ∷ nodes) (e ∷ drops) (l ∷ links) n t d) is (later j (more j pj (subst (λ t. slice_get (e ∷ drops) t ≡ Some d) (sym is) g)))

  -- ---- one branch
  -- links that count one pair more
  record Counted (ps : List Pair) (p : Pair) (drops : List DropEnds) : Type 0 where
    links : List Link
    count : Count network (ps ++ p ∷ []) links
    held : HoldDrops drops links
    first : NodesFirst ordering links

  count_end : (ps : List Pair) (links : List Link) → Count network ps links → Count network (ps ++ []) links
  count_end ps links c = subst (λ l. Count network l links) (sym (append-nil ps)) c

  first_end : (nodes : List ℕ) (links : List Link) (l : Link) → NodesFirst nodes links → NodesFirst nodes (links ++ l ∷ [])
  first_end [] links l f = tt
  first_end (n ∷ nodes) [] l f = absurd f
  first_end (n ∷ nodes) (k ∷ links) l f = (f.0, first_end nodes links l f.1)

  dead_counted : (ps : List Pair) (p : Pair) (drops : List DropEnds) (links : List Link) → IsDead network p.out → Count network ps links → HoldDrops drops links → NodesFirst ordering links → Counted ps p drops
  dead_counted ps p drops links d c h f = record { links = links; count = dead ps p [] links (inl d) (count_end ps links c); held = h; first = f }

  placed : (nodes : List ℕ) (n i : ℕ) → place_of nodes n ≡ Some i → IsAmong n nodes
  placed [] n i e = absurd cc
  placed (m ∷ nodes) n i e = go (m == n) refl e (λ j p. placed nodes n j p)
    where
      go : (t : Bool) → (m == n) ≡ t → (if t then Some 0 else option_map suc (place_of nodes n)) ≡ Some i → ((j : ℕ) → place_of nodes n ≡ Some j → IsAmong n nodes) → IsAmong n (m ∷ nodes)
      go true k q more = inl (let at : m ≡ n = grind arith in sym at)
      go false k q more = let (j, pj, is) = some_suc (place_of nodes n) i q in inr (more j pj)

  live_at : (ps : List PlacedTap) (ts : List Tap) → AllZip (HoldsTap s ordering) ps ts → AtLive network ts
  live_at [] [] h = tt
  live_at [] (t ∷ ts) h = absurd h
  live_at (p ∷ ps) [] h = absurd h
  live_at (p ∷ ps) (t ∷ ts) h = (live_in t.node (placed ordering t.node p.place h.0.place), live_at ps ts h.1)

  module _ (middle rest : Rectangle) (m r y : Complex) (parts : m ⊕ r ≈ y) (hm : EnclosesComplex s middle m) (hr : EnclosesComplex s rest r) where
    raised_counted : (ps : List Pair) (t : PlacedTap) (v : Tap) → HoldsTap s ordering t v → (factor : Ends) → mul_ends s t.ratio t.ratio ≡ Some factor → (drops after : List DropEnds) (links : List Link)
        → counted s middle rest (t ∷ []) (record { row = t.place; column = t.place; factor = factor } ∷ []) drops ≡ Some after → Count network ps links → HoldDrops drops links → NodesFirst ordering links → Counted ps (itself (v ∷ []) y) after
    raised_counted ps t v ht factor e1 drops after links e c h f =
        let (d, e2, n2) = bind-some _ _ after e in
        let (more, e3, n3) = bind-some _ _ after n2 in
        let (sm, e4, n4) = bind-some _ _ more e3 in
        let (sr, e5, n5) = bind-some _ _ more n4 in
        let (middles, e6, n6) = bind-some _ _ more n5 in
        let (rests, e7, n7) = bind-some _ _ more n6 in
        let k = times v.ratio v.ratio in
        let hf = mul_encloses s t.ratio t.ratio v.ratio v.ratio ht.ratio ht.ratio factor e1 in
        let spot = spot_of ordering drops links v.node t.place d ht.place e2 h f in
        let hsm = along s sm _ (real k ⊗ m) (scaled-is m k) (scale_encloses_rectangle s middle sm factor m k hm hf e4) in
        let hsr = along s sr _ (real k ⊗ r) (scaled-is r k) (scale_encloses_rectangle s rest sr factor r k hr hf e5) in
        let l = spot.link in
        let l' : Link = record { out = l.out; taps = l.taps; middle = l.middle ⊕ real k ⊗ m; rest = l.rest ⊕ real k ⊗ r; weight = l.weight } in
        let is : record { taps = d.taps; pairs = d.pairs; middle = middles; rest = rests } ≡ more = same_value _ _ n7 in
        let drop_held : HoldsDrop more l' = subst (λ b. HoldsDrop b l') is (record {
          taps = spot.here.taps;
          pairs = spot.here.pairs;
          out = spot.here.out;
          live = spot.here.live;
          middle = add_encloses_rectangle s d.middle sm middles l.middle (real k ⊗ m) spot.here.middle hsm e6;
          rest = add_encloses_rectangle s d.rest sr rests l.rest (real k ⊗ r) spot.here.rest hsr e7;
        }) in
        let set : slice_set drops t.place more ≡ after = same_value _ _ n3 in
        let changed = spot.changed more l' refl drop_held in
        let raises : Raises l (itself (v ∷ []) y) v l' = record {
          one_out = refl;
          one_tap = refl;
          out = spot.here.out ∙ spot.node;
          taps = spot.node;
          same_out = refl;
          same_taps = refl;
          sum = grown l.middle l.rest (real k);
        } in
        record {
          links = spot.before ++ l' ∷ spot.after;
          count = at_its_node ps (itself (v ∷ []) y) [] spot.before l spot.after v l' raises (subst (Count network (ps ++ [])) spot.split (count_end ps links c));
          held = subst (λ b. HoldDrops b (spot.before ++ l' ∷ spot.after)) set changed.0;
          first = changed.1;
        }
      where
        grown : (a b k : Complex) → (a ⊕ k ⊗ m) ⊕ (b ⊕ k ⊗ r) ≈ (a ⊕ b) ⊕ k ⊗ y
        grown a b k = linear R (a ∷ b ∷ k ∷ m ∷ r ∷ y ∷ []) (weigh R k parts) (search reads depth 40 fits 4000) none_left

    own_counted : (ps : List Pair) (taps : List PlacedTap) (pairs : List TapPair) (vs : List Tap) → AllZip (HoldsTap s ordering) taps vs → tap_pairs s taps taps ≡ Some pairs → (drops : List DropEnds) (links : List Link)
        → Count network ps links → HoldDrops drops links → NodesFirst ordering links → Counted ps (itself vs y) (drops ++ record { taps = taps; pairs = pairs; middle = middle; rest = rest } ∷ [])
    own_counted ps taps pairs vs hv hp drops links c h f =
        let l : Link = record { out = vs; taps = vs; middle = m; rest = r; weight = whole (pos 0) } in
        let live = live_at taps vs hv in
        record {
          links = links ++ l ∷ [];
          count = own ps (itself vs y) [] links l [] (record { out = refl; taps = refl; live_out = live; live_taps = live; split = parts }) (subst (Count network (ps ++ [])) (sym (append-nil links)) (count_end ps links c));
          held = zip_end HoldsDrop drops links _ l h (record { taps = hv; pairs = hp; out = refl; live = live; middle = hm; rest = hr });
          first = first_end ordering links l f;
        }

    branch_counted : (ps : List Pair) (taps : List PlacedTap) (pairs : List TapPair) (vs : List Tap) → AllZip (HoldsTap s ordering) taps vs → tap_pairs s taps taps ≡ Some pairs → (drops after : List DropEnds) (links : List Link)
        → counted s middle rest taps pairs drops ≡ Some after → Count network ps links → HoldDrops drops links → NodesFirst ordering links → Counted ps (itself vs y) after
    branch_counted ps [] pairs [] hv hp drops after links e c h f =
        let none_left : [] ≡ pairs = same_value _ _ hp in
        let is : drops ≡ after = same_value _ _ (subst (λ o. counted s middle rest [] o drops ≡ Some after) (sym none_left) e) in
        subst (Counted ps (itself [] y)) is (dead_counted ps (itself [] y) drops links tt c h f)
    branch_counted ps [] pairs (v ∷ vs) hv hp drops after links e c h f = absurd hv
    branch_counted ps (t ∷ taps) pairs [] hv hp drops after links e c h f = absurd hv
    branch_counted ps (t ∷ []) pairs (v ∷ w ∷ vs) hv hp drops after links e c h f = absurd hv.1
    branch_counted ps (t ∷ u ∷ taps) pairs (v ∷ []) hv hp drops after links e c h f = absurd hv.1
    branch_counted ps (t ∷ []) pairs (v ∷ []) hv hp drops after links e c h f =
        let (row, e1, n1) = bind-some _ _ pairs hp in
        let (pair, e2, n2) = bind-some _ _ row e1 in
        let (factor, e3, n3) = bind-some _ _ pair e2 in
        let is_pair : record { row = t.place; column = t.place; factor = factor } ≡ pair = same_value _ _ n3 in
        let is_row : pair ∷ [] ≡ row = same_value _ _ n2 in
        let is_all : row ++ [] ≡ pairs = same_value _ _ n1 in
        let is : record { row = t.place; column = t.place; factor = factor } ∷ [] ≡ pairs = ap (λ o. o ∷ []) is_pair ∙ (is_row ∙ (sym (append-nil row) ∙ is_all)) in
        raised_counted ps t v hv.0 factor e3 drops after links (subst (λ o. counted s middle rest (t ∷ []) o drops ≡ Some after) (sym is) e) c h f
    branch_counted ps (t ∷ u ∷ taps) pairs (v ∷ w ∷ vs) hv hp drops after links e c h f =
        let (p, q, more, is) = two_pairs s t u taps pairs hp in
        let e' : counted s middle rest (t ∷ u ∷ taps) (p ∷ q ∷ more) drops ≡ Some after = subst (λ o. counted s middle rest (t ∷ u ∷ taps) o drops ≡ Some after) is e in
        let hp' : tap_pairs s (t ∷ u ∷ taps) (t ∷ u ∷ taps) ≡ Some (p ∷ q ∷ more) = subst (λ o. tap_pairs s (t ∷ u ∷ taps) (t ∷ u ∷ taps) ≡ Some o) is hp in
        subst (Counted ps (itself (v ∷ w ∷ vs) y)) (same_value _ _ e') (own_counted ps (t ∷ u ∷ taps) (p ∷ q ∷ more) (v ∷ w ∷ vs) hv hp' drops links c h f)

  -- ---- all branches
  all_dead : (ts us : List Tap) → AllZip TapUpTo ts us → has_place ordering ts ≡ false → IsDead network us
  all_dead [] [] z e = tt
  all_dead [] (u ∷ us) z e = absurd z
  all_dead (t ∷ ts) [] z e = absurd z
  all_dead (t ∷ ts) (u ∷ us) z e = (
    λ l. absurd (let k : is_some (place_of ordering t.node) ≡ true = place-among t.node ordering (subst (λ n. IsAmong n ordering) (sym z.0.node) (contains_among u.node ordering ((listed.live u.node).0 l))) in clash (is_some (place_of ordering t.node)) (has_place ordering ts) e k),
    all_dead ts us z.1 (right_false (is_some (place_of ordering t.node)) (has_place ordering ts) e),
  )
    where
      clash : (a b : Bool) → (a || b) ≡ false → a ≡ true → ⊥
      clash true b e k = cc
      clash false b e k = cc

      right_false : (a b : Bool) → (a || b) ≡ false → b ≡ false
      right_false true b e = absurd cc
      right_false false b e = e

  -- a branch of dead taps has no live node
  none_live : (b : Branch) → IsDead network b.taps → HasLiveNode network b → ⊥
  none_live b d v = at b.taps d v.has.0 v.has.1 v.has.2
    where
      at : (ts : List Tap) → IsDead network ts → (i : ℕ) → i < length ts → get_or ts i v.tap ≡ v.tap → ⊥
      at [] d i l e = absurd (omega arith)
      at (o ∷ ts) d zero l e = d.0 (subst (λ (x : Tap). Live network x.node) (sym e) v.live)
      at (o ∷ ts) d (suc i) l e = at ts d.1 i (omega arith) e

  module _ (ends : Ends) (h : Order) (ho : Encloses s ends (fraction h)) where
    record LiveStep (b : Branch) (ps : List Pair) (after : List DropEnds) : Type 0 where
      y : Complex
      admitted : IsAdmittance h b.law y
      more : Counted ps (pair b b y) after

    live_step : (a c b : Branch) → BranchUpTo a b → BranchUpTo b c → (lb : LiveBranch) → live_branch s ordering a c ≡ Some lb → (drops after : List DropEnds) → with_branch s ends lb drops ≡ Some after
        → (ps : List Pair) (links : List Link) → Count network ps links → HoldDrops drops links → NodesFirst ordering links → LiveStep b ps after
    live_step a c b p q lb e drops after w ps links count held first =
        let (law, e1, n1) = bind-some _ _ lb e in
        let (taps, e2, n2) = bind-some _ _ lb n1 in
        let (pairs, e5, n5) = bind-some _ _ lb n2 in
        let is : record { law = law; taps = taps; pairs = pairs } ≡ lb = same_value _ _ n5 in
        let w' : with_branch s ends (record { law = law; taps = taps; pairs = pairs }) drops ≡ Some after = subst (λ b. with_branch s ends b drops ≡ Some after) (sym is) w in
        let (admittance, e3, n3) = bind-some _ _ after w' in
        let (rest, e4, n4) = bind-some _ _ after n3 in
        let (y, admitted, has) = law_held s ends h ho a.law c.law b.law law admittance p.law q.law e1 e3 in
        let m = middle_number s admittance in
        let hm = middle_held s admittance in
        let hr = sub_encloses_rectangle s admittance (middle_point admittance) rest y m has hm e4 in
        record {
          y = y;
          admitted = admitted;
          more = branch_counted (middle_point admittance) rest m (complex_difference y m) y (ring R (y ∷ m ∷ []) (search reads depth 40 fits 4000) none_left) hm hr ps taps pairs b.taps
              (taps_hold s ordering a.taps c.taps b.taps taps p.taps q.taps e2) e5 drops after links n4 count held first;
        }

    -- exact admittances of branches, whose pairs are counted
    pub record HeldDrops (bs : List Branch) (ps : List Pair) (final : List DropEnds) : Type 0 where
      pub parts : List Part
      pub split : IsSplit bs parts
      pub live : EachLivePart network h parts
      pub pairs : List Pair
      pub paired : IsPaired h parts pairs
      pub links : List Link
      pub count : Count network (ps ++ pairs) links
      pub held : HoldDrops final links
      pub first : NodesFirst ordering links

    only : (b o : Branch) → Contains (b ∷ []) o → b ≡ o
    only b o k = at k.0 k.1 k.2
      where
        at : (j : ℕ) → j < 1 → get_or (b ∷ []) j o ≡ o → b ≡ o
        at zero l e = e
        at (suc j) l e = absurd (omega arith)

    -- one branch before others
    one_more : (b : Branch) (bs : List Branch) (ps : List Pair) (final : List DropEnds) (y : Complex) → IsUncoupled b → (HasLiveNode network b → IsAdmittance h b.law y) → HeldDrops bs (ps ++ pair b b y ∷ []) final → HeldDrops (b ∷ bs) ps final
    one_more b bs ps final y u admitted more = record {
      parts = Alone b y ∷ more.parts;
      split = one b y bs more.parts u more.split;
      live = (λ o k v. alone b y (admitted (subst (HasLiveNode network) (sym (only b o k)) v)), more.live);
      pairs = pair b b y ∷ more.pairs;
      paired = alone_pair b y more.parts more.pairs more.paired;
      links = more.links;
      count = subst (λ qs. Count network qs more.links) (append_assoc ps (pair b b y ∷ []) more.pairs) more.count;
      held = more.held;
      first = more.first;
    }

    -- a group of dead branches before others
    group_more : (a b c : Branch) (bs : List Branch) (ps : List Pair) (final : List DropEnds) → IsGroup a b c → AllByRecursion (λ o. o.group ≢ a.group) bs → IsDead network a.taps → IsDead network b.taps → IsDead network c.taps → HeldDrops bs ps final → HeldDrops (a ∷ b ∷ c ∷ bs) ps final
    group_more a b c bs ps final g apart da db dc more = record {
      parts = Group a b c Y ∷ more.parts;
      split = three a b c Y bs more.parts g apart more.split;
      live = (λ o k v. absurd (no_live o k v), more.live);
      pairs = nine_pairs a b c Y ++ more.pairs;
      paired = group_pairs a b c Y more.parts more.pairs more.paired;
      links = more.links;
      count = add a a da _ (add a b da _ (add a c da _ (add b a db _ (add b b db _ (add b c db _ (add c a dc _ (add c b dc _ (add c c dc _ more.count))))))));
      held = more.held;
      first = more.first;
    }
      where
        Y : ℕ → ℕ → Complex
        Y p q = nought

        add : (v w : Branch) → IsDead network v.taps → (qs : List Pair) → Count network (ps ++ qs) more.links → Count network (ps ++ pair v w nought ∷ qs) more.links
        add v w d qs k = dead ps (pair v w nought) qs more.links (inl d) k

        no_live : (o : Branch) → Contains (a ∷ b ∷ c ∷ []) o → HasLiveNode network o → ⊥
        no_live o k = at k.0 k.1 k.2
          where
            at : (j : ℕ) → j < 3 → get_or (a ∷ b ∷ c ∷ []) j o ≡ o → HasLiveNode network o → ⊥
            at zero l e v = none_live a da (subst (HasLiveNode network) (sym e) v)
            at (suc zero) l e v = none_live b db (subst (HasLiveNode network) (sym e) v)
            at (suc (suc zero)) l e v = none_live c dc (subst (HasLiveNode network) (sym e) v)
            at (suc (suc (suc j))) l e v = absurd (omega arith)

    -- ---- an even group
    -- a law's admittance, whatever its rectangle
    abbrev HoldsLaw : LawEnds → Complex → Type 0
    HoldsLaw law y = (a : Rectangle) → law_rectangle s ends law ≡ Some a → EnclosesComplex s a y

    -- a branch of the four, by its taps in full
    part_step : (law : LawEnds) (y : Complex) → HoldsLaw law y → (full : List Tap) (its_taps : List PlacedTap) → PhaseTaps network s ordering listed full its_taps → (lb : LiveBranch) → branch_with s law its_taps ≡ Some lb
        → (drops after : List DropEnds) → with_branch s ends lb drops ≡ Some after → (ps : List Pair) (links : List Link) → Count network ps links → HoldDrops drops links → NodesFirst ordering links → Counted ps (itself full y) after
    part_step law y has full its_taps taps lb e drops after w ps links count held first =
        let (pairs, e5, n5) = bind-some (tap_pairs s its_taps its_taps) (λ pairs. Some (record { law = law; taps = its_taps; pairs = pairs })) lb e in
        let is : record { law = law; taps = its_taps; pairs = pairs } ≡ lb = same_value _ _ n5 in
        let w' : with_branch s ends (record { law = law; taps = its_taps; pairs = pairs }) drops ≡ Some after = subst (λ b. with_branch s ends b drops ≡ Some after) (sym is) w in
        let (admittance, e3, n3) = bind-some _ _ after w' in
        let (rest, e4, n4) = bind-some _ _ after n3 in
        let m = middle_number s admittance in
        let hm = middle_held s admittance in
        let hr = sub_encloses_rectangle s admittance (middle_point admittance) rest y m (has admittance e3) hm e4 in
        let less = branch_counted (middle_point admittance) rest m (complex_difference y m) y (ring R (y ∷ m ∷ []) (search reads depth 40 fits 4000) none_left) hm hr ps its_taps pairs taps.less taps.held e5 drops after links n4 count held first in
        record { links = less.links; count = trimmed ps full y taps.less [] less.links taps.trimmed less.count; held = less.held; first = less.first }

    record EvenStep (a b c : Branch) (values : Coupling) (ps : List Pair) (after : List DropEnds) : Type 0 where
      y1 : Complex
      y0 : Complex
      apart : IsAdmittance h (apart_law values) y1
      common : IsAdmittance h (common_law values) y0
      known : HasResistance values.k values.m h
      links : List Link
      count : Count network (ps ++ four_pairs a b c y1 y0) links
      held : HoldDrops after links
      first : NodesFirst ordering links

    -- the four, one after another
    four_step : (a b c : Branch) (values : Coupling) (xs ys zs : List PlacedTap) → PhaseTaps network s ordering listed a.taps xs → PhaseTaps network s ordering listed b.taps ys → PhaseTaps network s ordering listed c.taps zs
        → (four : List LiveBranch) → four_branches s values xs ys zs ≡ Some four → (drops after : List DropEnds) → with_branches s ends four drops ≡ Some after
        → (ps : List Pair) (links : List Link) → Count network ps links → HoldDrops drops links → NodesFirst ordering links → EvenStep a b c values ps after
    four_step a b c values xs ys zs ta tb tc four e drops after w ps links count held first =
        let (apart, e1, n1) = bind-some _ _ four e in
        let (common, e2, n2) = bind-some _ _ four n1 in
        let (less_ys, e3, n3) = bind-some _ _ four n2 in
        let (less_zs, e4, n4) = bind-some _ _ four n3 in
        let (ab, e5, n5) = bind-some _ _ four n4 in
        let (bc, e6, n6) = bind-some _ _ four n5 in
        let (ac, e7, n7) = bind-some _ _ four n6 in
        let (sum, e8, n8) = bind-some _ _ four n7 in
        let is : ab ∷ bc ∷ ac ∷ sum ∷ [] ≡ four = same_value _ _ n8 in
        by_steps apart common less_ys less_zs ab bc ac sum e1 e2 e3 e4 e5 e6 e7 e8 (subst (λ f. with_branches s ends f drops ≡ Some after) (sym is) w)
      where
        by_steps : (apart common : LawEnds) (less_ys less_zs : List PlacedTap) (ab bc ac sum : LiveBranch) → law_between s (apart_law values) (apart_law values) ≡ Some apart → law_between s (common_law values) (common_law values) ≡ Some common
            → each opposed_tap ys ≡ Some less_ys → each opposed_tap zs ≡ Some less_zs → branch_with s apart (xs ++ less_ys) ≡ Some ab → branch_with s apart (ys ++ less_zs) ≡ Some bc → branch_with s apart (xs ++ less_zs) ≡ Some ac
            → branch_with s common (xs ++ ys ++ zs) ≡ Some sum → with_branches s ends (ab ∷ bc ∷ ac ∷ sum ∷ []) drops ≡ Some after → EvenStep a b c values ps after
        by_steps apart common less_ys less_zs ab bc ac sum e1 e2 e3 e4 e5 e6 e7 e8 w =
            let (d1, w1, v1) = bind-some (with_branch s ends ab drops) (with_branches s ends (bc ∷ ac ∷ sum ∷ [])) after w in
            let (d2, w2, v2) = bind-some (with_branch s ends bc d1) (with_branches s ends (ac ∷ sum ∷ [])) after v1 in
            let (d3, w3, v3) = bind-some (with_branch s ends ac d2) (with_branches s ends (sum ∷ [])) after v2 in
            let (d4, w4, v4) = bind-some (with_branch s ends sum d3) (with_branches s ends []) after v3 in
            let is : d4 ≡ after = same_value _ _ v4 in
            let (r1, r1-is) = rectangle_of_branch apart (xs ++ less_ys) ab e5 drops d1 w1 in
            let (r0, r0-is) = rectangle_of_branch common (xs ++ ys ++ zs) sum e8 d3 d4 w4 in
            let (y1, i1, h1) = law_held s ends h ho (apart_law values) (apart_law values) (apart_law values) apart r1 (itself_up _ _ _ _ _) (itself_up _ _ _ _ _) e1 r1-is in
            let (y0, i0, h0) = law_held s ends h ho (common_law values) (common_law values) (common_law values) common r0 (itself_up _ _ _ _ _) (itself_up _ _ _ _ _) e2 r0-is in
            let to = λ (law : LawEnds) (y : Complex) (r : Rectangle) (k : law_rectangle s ends law ≡ Some r) (has : EnclosesComplex s r y) (r' : Rectangle) (k' : law_rectangle s ends law ≡ Some r'). subst (λ q. EnclosesComplex s q y) (same_value r r' (sym k ∙ k')) has in
            let tb' = opposed_taps network s ordering listed b.taps ys less_ys tb e3 in
            let tc' = opposed_taps network s ordering listed c.taps zs less_zs tc e4 in
            let both = both_taps network s ordering listed in
            let c1 = part_step apart y1 (to apart y1 r1 r1-is h1) (a.taps ++ opposed b.taps) (xs ++ less_ys) (both a.taps (opposed b.taps) xs less_ys ta tb') ab e5 drops d1 w1 ps links count held first in
            let c2 = part_step apart y1 (to apart y1 r1 r1-is h1) (b.taps ++ opposed c.taps) (ys ++ less_zs) (both b.taps (opposed c.taps) ys less_zs tb tc') bc e6 d1 d2 w2 _ c1.links c1.count c1.held c1.first in
            let c3 = part_step apart y1 (to apart y1 r1 r1-is h1) (a.taps ++ opposed c.taps) (xs ++ less_zs) (both a.taps (opposed c.taps) xs less_zs ta tc') ac e7 d2 d3 w3 _ c2.links c2.count c2.held c2.first in
            let c4 = part_step common y0 (to common y0 r0 r0-is h0) (a.taps ++ b.taps ++ c.taps) (xs ++ ys ++ zs) (both (a.taps ++ b.taps) c.taps (xs ++ ys) zs (both a.taps b.taps xs ys ta tb) tc) sum e8 d3 d4 w4 _ c3.links c3.count c3.held c3.first in
            record {
              y1 = y1;
              y0 = y0;
              apart = i1;
              common = i0;
              known = resistance_known s (times (whole (pos 3)) (difference values.self_r values.mutual_r)) values.k values.m (times (whole (pos 3)) (difference values.self_x values.x_ab)) (whole (pos 0)) apart ends r1 h ho e1 r1-is;
              links = c4.links;
              count = subst (λ qs. Count network qs c4.links) (four_after ps (itself (a.taps ++ opposed b.taps) y1) (itself (b.taps ++ opposed c.taps) y1) (itself (a.taps ++ opposed c.taps) y1) (itself (a.taps ++ b.taps ++ c.taps) y0)) c4.count;
              held = subst (λ l. HoldDrops l c4.links) is c4.held;
              first = c4.first;
            }
          where
            itself_up : (r k m x xc : Ratio) → LawUpTo (Series r k m x xc) (Series r k m x xc)
            itself_up r k m x xc = (up_to r, up_to k, up_to m, up_to x, up_to xc)

            rectangle_of_branch : (law : LawEnds) (its_taps : List PlacedTap) (lb : LiveBranch) → branch_with s law its_taps ≡ Some lb → (drops after : List DropEnds) → with_branch s ends lb drops ≡ Some after → (r : Rectangle) × (law_rectangle s ends law ≡ Some r)
            rectangle_of_branch law its_taps lb e drops after w =
                let (pairs, e5, n5) = bind-some (tap_pairs s its_taps its_taps) (λ pairs. Some (record { law = law; taps = its_taps; pairs = pairs })) lb e in
                let is : record { law = law; taps = its_taps; pairs = pairs } ≡ lb = same_value _ _ n5 in
                let w' : with_branch s ends (record { law = law; taps = its_taps; pairs = pairs }) drops ≡ Some after = subst (λ b. with_branch s ends b drops ≡ Some after) (sym is) w in
                let (admittance, e3, n3) = bind-some (law_rectangle s ends law) (λ y. sub_rectangles y (middle_point y) >>= (λ rest. counted s (middle_point y) rest its_taps pairs drops)) after w' in
                (admittance, e3)

    -- an even group before others
    even_more : (a b c : Branch) (bs : List Branch) (ps : List Pair) (final : List DropEnds) (g : IsGroup a b c) → AllByRecursion (λ o. o.group ≢ a.group) bs → (values : Coupling) → IsEven values → SameCoupling g.first.values values
        → (mid : List DropEnds) (here : EvenStep a b c values ps mid) → HeldDrops bs (ps ++ four_pairs a b c here.y1 here.y0) final → HeldDrops (a ∷ b ∷ c ∷ bs) ps final
    even_more a b c bs ps final g apart values even_values same_values mid here more = record {
      parts = Group a b c Y ∷ more.parts;
      split = three a b c Y bs more.parts g apart more.split;
      live = (
        λ o k v. with_group a b c Y g (same_admitted h values here.known g.first.values g.second.values g.third.values Y same_values
            (coupling_next _ _ _ g.equal_second same_values) (coupling_next _ _ _ g.equal_third same_values) admitted),
        more.live,
      );
      pairs = four_pairs a b c here.y1 here.y0 ++ more.pairs;
      paired = even_pairs a b c Y values here.y1 here.y0 more.parts more.pairs admitted even_values here.apart here.common more.paired;
      links = more.links;
      count = subst (λ qs. Count network qs more.links) (append_assoc ps (four_pairs a b c here.y1 here.y0) more.pairs) more.count;
      held = more.held;
      first = more.first;
    }
      where
        Y : ℕ → ℕ → Complex
        Y = even_matrix here.y1 here.y0

        admitted : IsGroupAdmittance h values values values Y
        admitted = even_admitted h values here.y1 here.y0 even_values here.apart here.common

    -- ---- lists of live branches
    with_append : (bs cs : List LiveBranch) (drops final : List DropEnds) → with_branches s ends (bs ++ cs) drops ≡ Some final → (mid : List DropEnds) × (with_branches s ends bs drops ≡ Some mid) × (with_branches s ends cs mid ≡ Some final)
    with_append [] cs drops final w = (drops, refl, w)
    with_append (b ∷ bs) cs drops final w =
        let (after, w1, v1) = bind-some (with_branch s ends b drops) (with_branches s ends (bs ++ cs)) final w in
        let (mid, w2, v2) = with_append bs cs after final v1 in
        (mid, go (with_branch s ends b drops) after mid w1 w2, v2)
      where
        go : (o : Option (List DropEnds)) (after mid : List DropEnds) → o ≡ Some after → with_branches s ends bs after ≡ Some mid → (o >>= with_branches s ends bs) ≡ Some mid
        go (Some d) after mid e k = let is : after ≡ d = cc in subst (λ x. with_branches s ends bs x ≡ Some mid) is k
        go None after mid e k = absurd cc

    record Joined (here : Option (List LiveBranch)) (rest : Option (List LiveBranch)) (branches : List LiveBranch) : Type 0 where
      first : List LiveBranch
      first_is : here ≡ Some first
      more : List LiveBranch
      more_is : rest ≡ Some more
      all_are : first ++ more ≡ branches

    joined_are : (here rest : Option (List LiveBranch)) (branches : List LiveBranch) → (here >>= (λ x. rest >>= (λ y. Some (x ++ y)))) ≡ Some branches → Joined here rest branches
    joined_are here rest branches e =
        let (first, e1, n1) = bind-some here (λ x. rest >>= (λ y. Some (x ++ y))) branches e in
        let (more, e2, n2) = bind-some rest (λ y. Some (first ++ y)) branches n1 in
        record { first = first; first_is = e1; more = more; more_is = e2; all_are = same_value _ _ n2 }

    -- a further branch of a group adds none
    skipped : (place : Option ℕ) (k : ℕ) → place ≡ Some (suc k) → (a b : Branch) (xs bs : List Branch) (rest : Option (List LiveBranch)) (branches : List LiveBranch)
        → (first_live s ordering place a xs b bs >>= (λ x. rest >>= (λ y. Some (x ++ y)))) ≡ Some branches → rest ≡ Some branches
    skipped None k e a b xs bs rest branches m = absurd cc
    skipped (Some zero) k e a b xs bs rest branches m = absurd cc
    skipped (Some (suc j)) k e a b xs bs rest branches m =
        let join = joined_are (Some []) rest branches m in
        let none : [] ≡ join.first = same_value _ _ join.first_is in
        let is : join.more ≡ branches = subst (λ l. l ++ join.more ≡ branches) (sym none) join.all_are in
        subst (λ l. rest ≡ Some l) is join.more_is

    none_of_three : (t u v : Bool) → (t || u || v) ≡ false → (t ≡ false) × (u ≡ false) × (v ≡ false)
    none_of_three t u v e = grind arith

    pub branches_held : (ls hs bs : List Branch) → AllZip BranchUpTo ls bs → AllZip BranchUpTo bs hs → IsGrouped bs → (branches : List LiveBranch) → live_branches s ordering ls hs ≡ Some branches
        → (drops final : List DropEnds) → with_branches s ends branches drops ≡ Some final → (ps : List Pair) (links : List Link) → Count network ps links → HoldDrops drops links → NodesFirst ordering links → HeldDrops bs ps final
    branches_held [] hs L p q done branches e drops final w ps links count held first =
        let none_left : [] ≡ branches = cc in
        let w' : with_branches s ends [] drops ≡ Some final = subst (λ l. with_branches s ends l drops ≡ Some final) (sym none_left) w in
        let is : drops ≡ final = cc in
        record { parts = []; split = end; live = tt; pairs = []; paired = no_pairs; links = links; count = count_end ps links count; held = subst (λ l. HoldDrops l links) is held; first = first }
    branches_held (l ∷ ls) hs L p q done branches e drops final w ps links count held first = absurd p
    branches_held [] hs L p q (uncoupled_alone b bs u rest) branches e drops final w ps links count held first = absurd p
    branches_held (l ∷ ls) [] L p q (uncoupled_alone b bs u rest) branches e drops final w ps links count held first = absurd q
    branches_held (l ∷ ls) (c ∷ hs) L p q (uncoupled_alone b bs u rest) branches e drops final w ps links count held first =
        let j = joined_are (first_live s ordering (place_in_group l.law) l ls c hs) (live_branches s ordering ls hs) branches e in
        let (mid, w1, w2) = with_append j.first j.more drops final (subst (λ x. with_branches s ends x drops ≡ Some final) (sym j.all_are) w) in
        at_first (place_in_group l.law) (place_alone l b p.0 u) j.first j.first_is mid w1
        (λ ps' links' count' held' first'. branches_held ls hs bs p.1 q.1 rest j.more j.more_is mid final w2 ps' links' count' held' first')
      where
        at_first : (place : Option ℕ) → place ≡ None → (here : List LiveBranch) → first_live s ordering place l ls c hs ≡ Some here → (mid : List DropEnds) → with_branches s ends here drops ≡ Some mid
            → ((ps' : List Pair) (links' : List Link) → Count network ps' links' → HoldDrops mid links' → NodesFirst ordering links' → HeldDrops bs ps' final) → HeldDrops (b ∷ bs) ps final
        at_first (Some k) n here f mid v more = absurd cc
        at_first None n here f mid v more = go (has_place ordering l.taps) refl f
          where
            go : (t : Bool) → has_place ordering l.taps ≡ t → (if t then live_branch s ordering l c >>= (λ o. Some (o ∷ [])) else Some []) ≡ Some here → HeldDrops (b ∷ bs) ps final
            go true k m =
                let (lb, e1, n1) = bind-some (live_branch s ordering l c) (λ o. Some (o ∷ [])) here m in
                let is : lb ∷ [] ≡ here = same_value _ _ n1 in
                let (after, v1, v2) = bind-some (with_branch s ends lb drops) (with_branches s ends []) mid (subst (λ x. with_branches s ends x drops ≡ Some mid) (sym is) v) in
                let same : after ≡ mid = same_value _ _ v2 in
                let step = live_step l c b p.0 q.0 lb e1 drops mid (subst (λ x. with_branch s ends lb drops ≡ Some x) same v1) ps links count held first in
                one_more b bs ps final step.y u (λ v. step.admitted) (more (ps ++ pair b b step.y ∷ []) step.more.links step.more.count step.more.held step.more.first)
            go false k m =
                let none : [] ≡ here = same_value _ _ m in
                let same : drops ≡ mid = same_value _ _ (subst (λ x. with_branches s ends x drops ≡ Some mid) (sym none) v) in
                let dead_taps = all_dead l.taps b.taps p.0.taps k in
                let step = dead_counted ps (pair b b nought) drops links dead_taps count held first in
                one_more b bs ps final nought u (λ v. absurd (none_live b dead_taps v)) (more (ps ++ pair b b nought ∷ []) step.links step.count (subst (λ l. HoldDrops l step.links) same step.held) step.first)
    branches_held [] hs L p q (group a b c bs g apart rest) branches e drops final w ps links count held first = absurd p
    branches_held (la ∷ []) hs L p q (group a b c bs g apart rest) branches e drops final w ps links count held first = absurd p.1
    branches_held (la ∷ lb ∷ []) hs L p q (group a b c bs g apart rest) branches e drops final w ps links count held first = absurd p.1.1
    branches_held (la ∷ lb ∷ lc ∷ ls) [] L p q (group a b c bs g apart rest) branches e drops final w ps links count held first = absurd q
    branches_held (la ∷ lb ∷ lc ∷ ls) (ua ∷ []) L p q (group a b c bs g apart rest) branches e drops final w ps links count held first = absurd q.1
    branches_held (la ∷ lb ∷ lc ∷ ls) (ua ∷ ub ∷ []) L p q (group a b c bs g apart rest) branches e drops final w ps links count held first = absurd q.1.1
    branches_held (la ∷ lb ∷ lc ∷ ls) (ua ∷ ub ∷ uc ∷ hs) L p q (group a b c bs g apart rest) branches e drops final w ps links count held first =
        let j = joined_are (first_live s ordering (place_in_group la.law) la (lb ∷ lc ∷ ls) ua (ub ∷ uc ∷ hs)) (live_branches s ordering (lb ∷ lc ∷ ls) (ub ∷ uc ∷ hs)) branches e in
        let second = skipped (place_in_group lb.law) 0 (place_of_group lb b 1 p.1.0 g.second) lb ub (lc ∷ ls) (uc ∷ hs) (live_branches s ordering (lc ∷ ls) (uc ∷ hs)) j.more j.more_is in
        let third = skipped (place_in_group lc.law) 1 (place_of_group lc c 2 p.1.1.0 g.third) lc uc ls hs (live_branches s ordering ls hs) j.more second in
        let (mid, w1, w2) = with_append j.first j.more drops final (subst (λ x. with_branches s ends x drops ≡ Some final) (sym j.all_are) w) in
        let here : group_if_live s ordering la lb lc ua ub uc ≡ Some j.first = subst (λ o. first_live s ordering o la (lb ∷ lc ∷ ls) ua (ub ∷ uc ∷ hs) ≡ Some j.first) (place_of_group la a 0 p.0 g.first) j.first_is in
        at_group j.first here mid w1 (λ ps' links' count' held' first'. branches_held ls hs bs p.1.1.1 q.1.1.1 rest j.more third mid final w2 ps' links' count' held' first')
      where
        at_group : (here : List LiveBranch) → group_if_live s ordering la lb lc ua ub uc ≡ Some here → (mid : List DropEnds) → with_branches s ends here drops ≡ Some mid
            → ((ps' : List Pair) (links' : List Link) → Count network ps' links' → HoldDrops mid links' → NodesFirst ordering links' → HeldDrops bs ps' final) → HeldDrops (a ∷ b ∷ c ∷ bs) ps final
        at_group here f mid v more = go (has_place ordering la.taps || has_place ordering lb.taps || has_place ordering lc.taps) refl f
          where
            go : (t : Bool) → (has_place ordering la.taps || has_place ordering lb.taps || has_place ordering lc.taps) ≡ t → (if t then live_group s ordering la lb lc ua ub uc else Some []) ≡ Some here → HeldDrops (a ∷ b ∷ c ∷ bs) ps final
            go true k m =
                let (values, e1, n1) = bind-some _ _ here m in
                let (xs, e2, n2) = bind-some _ _ here n1 in
                let (ys, e3, n3) = bind-some _ _ here n2 in
                let (zs, e4, n4) = bind-some _ _ here n3 in
                let (even, same_values) = even_values la.law ua.law a.law 0 values g.first.values p.0.law q.0.law g.first.law e1 in
                let step = four_step a b c values xs ys zs (phase_taps network s ordering listed la ua a xs p.0 q.0 e2) (phase_taps network s ordering listed lb ub b ys p.1.0 q.1.0 e3) (phase_taps network s ordering listed lc uc c zs p.1.1.0 q.1.1.0 e4) here n4
                drops mid v ps links count held first in
                even_more a b c bs ps final g apart values even same_values mid step (more (ps ++ four_pairs a b c step.y1 step.y0) step.links step.count step.held step.first)
            go false k m =
                let none : [] ≡ here = same_value _ _ m in
                let same : drops ≡ mid = same_value _ _ (subst (λ x. with_branches s ends x drops ≡ Some mid) (sym none) v) in
                let (ea, eb, ec) = none_of_three (has_place ordering la.taps) (has_place ordering lb.taps) (has_place ordering lc.taps) k in
                group_more a b c bs ps final g apart (all_dead la.taps a.taps p.0.taps ea) (all_dead lb.taps b.taps p.1.0.taps eb) (all_dead lc.taps c.taps p.1.1.0.taps ec)
                (more ps links count (subst (λ l. HoldDrops l links) same held) first)
