-- What the drops make of a matrix in the place of the inverse holds what the links make of it.
use Rattle.std.proofs.Common.{◌≡◌, ◌∙◌, ◌+◌, ◌^◌, ◌-◌, ℕ, suc, List, [], ◌∷◌, length, refl, sym, subst, ap, arith, Option, Some, None}
use Rattle.std.specs.Prelude.{slice_get, nat_le, ◌==◌, if◌then◌else◌, true, false, Bool}
use Rattle.std.specs.Option.{option_map}
use Rattle.std.specs.List.{AllZip}
use Rattle.std.proofs.lemmas.Nat.{pow_pos}
use Rattle.exact_algebra.specs.Ratio.{Ratio, den, magnitude, ◌≼◌}
use Rattle.exact_algebra.specs.Complex.{Complex, complex_numbers, complex_size, real}
use Rattle.exact_algebra.proofs.Complexes.{complex_field}
use Rattle.exact_algebra.proofs.Holding.{holds_along}
use Rattle.exact_algebra.proofs.Ratios.{ratio_ring}
use Rattle.exact_algebra.proofs.Reader.{reads, ring, none_left}
use Rattle.exact_algebra.proofs.Reals.{re-real, im-real}
use Rattle.linear_systems.specs.Assembly.{where_equal}
use Rattle.complex_interval.specs.Ends.{Ends, Encloses, mag_of}
use Rattle.complex_interval.specs.Rectangles.{Rectangle, EnclosesComplex, IsAtLeastSize, mul_rectangles}
use Rattle.complex_interval.proofs.RectangleLaws.{add_encloses_rectangle, mul_encloses_rectangle}
use Rattle.complex_interval.proofs.Sizes.{size_bound}
use Rattle.network_theory.specs.Network.{Network}
use Rattle.network_theory.specs.Nodal.{IsDistinct, ListsLive, pair_entry}
use Rattle.network_theory.specs.State.{drop}
use Rattle.network_theory.proofs.Numbers.{R}
use Rattle.network_theory.proofs.OneNode.{real-unit}
use Rattle.middle_inverse.specs.Lists.{each, each_two}
use Rattle.middle_inverse.specs.Inverse.{size_of}
use Rattle.certified_inverse.specs.Certificate.{in_size, unit_rectangles, row_left}
use Rattle.admittance_box.specs.Exact.{zero_ends}
use Rattle.admittance_box.specs.Places.{place_of}
use Rattle.admittance_box.specs.Steps.{◌>>=◌}
use Rattle.admittance_box.proofs.HeldEntries.{item_at, some_suc}
use Rattle.admittance_box.proofs.HeldPairs.{Held, held_along, along, pairs_hold, plus-none}
use Rattle.admittance_box.proofs.LivePairs.{zip_back}
use Rattle.admittance_box.proofs.Ranges.{zero_encloses}
use Rattle.admittance_box.proofs.Steps.{bind-some}
use Rattle.branchwise_laws.specs.Total.{total}
use Rattle.branchwise_laws.specs.Link.{Link, link_entry}
use Rattle.branchwise_laws.specs.Reach.{at_node, transfer, left_over}
use Rattle.branchwise_laws.specs.Places.{NodesFirst}
use Rattle.branchwise_laws.specs.Wholes.{units}
use Rattle.branchwise_laws.proofs.AtMost.{le_along}
use Rattle.branchwise_laws.proofs.Bounds.{size-real}
use Rattle.branchwise_laws.proofs.Identity.{drop-node}
use Rattle.branchwise_test.specs.Drops.{DropEnds, with_middles}
use Rattle.branchwise_test.specs.Sizes.{drop_over, voltages, all_voltages, kept_size, left_row, drop_sizes}
use Rattle.branchwise_test.specs.Enclosed.{or_else, moved, correction}
use Rattle.branchwise_test.proofs.Zips.{each_holds, each_two_holds}
use Rattle.branchwise_test.proofs.Rows.{HoldsRow, row_along, drop_over_holds, units_held, row_left_holds}
use Rattle.branchwise_test.proofs.Branches.{HoldsDrop, HoldDrops}
open complex_numbers use {◌≈◌, nought, unit, ◌⊕◌, ◌⊗◌, minus}
open complex_field use {same, back, next}

-- ---- sizes
size_most : (s n : ℕ) (z : Complex) → IsAtLeastSize s n z → complex_size z ≼ units s n
unfolding den
size_most s n z h = let some = pow_pos s in let e : suc (2 ^ s - 1) ≡ 2 ^ s = omega arith in record { cross = rw e h }

pub kept_is : (m k : ℕ) → in_size m ≡ Some k → m ≡ k
kept_is m k e = go (nat_le m (2 ^ 62)) e
  where
    go : (t : Bool) → (if t then Some m else None) ≡ Some k → m ≡ k
    go true e = cc
    go false e = absurd cc

pub size_kept : (s : ℕ) (a : Rectangle) (z : Complex) (k : ℕ) → EnclosesComplex s a z → kept_size a ≡ Some k → complex_size z ≼ units s k
unfolding size_of
size_kept s a z k h e = subst (λ n. complex_size z ≼ units s n) (kept_is _ k e) (size_most s _ z (size_bound s a z h))

-- a real number
pub ratio_size : (s : ℕ) (a : Ends) (x : Ratio) → Encloses s a x → magnitude x ≼ units s (mag_of a)
ratio_size s a x h =
    let held : EnclosesComplex s (record { re = a; im = zero_ends }) (real x) =
    record { re = holds_along _ _ s _ _ (ratio_ring.back (re-real x)) h; im = holds_along _ _ s _ _ (ratio_ring.back (im-real x)) (zero_encloses s) } in
    let b = size_most s _ (real x) (size_bound s (record { re = a; im = zero_ends }) (real x) held) in
    let plain : mag_of a + mag_of zero_ends ≡ mag_of a = omega arith in
    le_along (size-real x) (ratio_ring.same _) (subst (λ n. complex_size (real x) ≼ units s n) plain b)

-- the entries of (unit - C·P)
pub left_bound : (s : ℕ) (ordering : List ℕ) (C : ℕ → ℕ → Complex) (links : List Link) (ps : List (List Rectangle)) → Held s ordering (link_entry (λ l. l.middle) links) ps → (cs : List (List Rectangle)) (left : List (List ℕ))
    → IsDistinct ordering → Held s ordering C cs → each_two (left_row s ps) (unit_rectangles s (length ordering)) cs ≡ Some left
    → AllZip (λ n row. AllZip (λ n' k. complex_size (left_over ordering C links n n') ≼ units s k) ordering row) ordering left
left_bound s ordering C links ps held cs left d hc e =
    each_two_holds (λ n u. HoldsRow s ordering (λ n'. where_equal complex_numbers n n' unit) u) (λ n row. HoldsRow s ordering (C n) row) (λ n row. AllZip (λ n' k. complex_size (left_over ordering C links n n') ≼ units s k) ordering row) (left_row s ps)
    one ordering (unit_rectangles s (length ordering)) cs left (units_held s ordering d) hc e
  where
    one : (n : ℕ) (u c : List Rectangle) (ks : List ℕ) → HoldsRow s ordering (λ n'. where_equal complex_numbers n n' unit) u → HoldsRow s ordering (C n) c → left_row s ps u c ≡ Some ks → AllZip (λ n' k. complex_size (left_over ordering C links n n') ≼ units s k) ordering ks
    one n u c ks hu hc e =
        let (row, e1, e2) = bind-some (row_left s ps u c) (each kept_size) ks e in
        each_holds (λ n' a. EnclosesComplex s a (left_over ordering C links n n')) (λ n' k. complex_size (left_over ordering C links n n') ≼ units s k) kept_size
        (λ n' a k p f. size_kept s a (left_over ordering C links n n') k p f) ordering row ks (row_left_holds s ordering C links ps held n u c row hu hc e1) e2

-- what belongs to the first link at a node's place
first_with : {Y : Type 0} (P : Link → Y → Type 0) (nodes : List ℕ) (links : List Link) (ys : List Y) (n i : ℕ) (y : Y) → place_of nodes n ≡ Some i → slice_get ys i ≡ Some y → NodesFirst nodes links → AllZip P links ys
    → (l : Link) × (l.taps ≡ at_node n) × P l y
first_with P [] links ys n i y p g f z = absurd cc
first_with P (m ∷ nodes) [] ys n i y p g f z = absurd f
first_with P (m ∷ nodes) (l ∷ links) [] n i y p g f z = absurd z
first_with {Y} P (m ∷ nodes) (l ∷ links) (x ∷ ys) n i y p g f z = go (m == n) refl p (λ j p' g'. first_with P nodes links ys n j y p' g' f.1 z.1)
  where
    go : (t : Bool) → (m == n) ≡ t → (if t then Some 0 else option_map suc (place_of nodes n)) ≡ Some i → ((j : ℕ) → place_of nodes n ≡ Some j → slice_get ys j ≡ Some y → (l : Link) × (l.taps ≡ at_node n) × P l y) → (l : Link) × (l.taps ≡ at_node n) × P l y
    go true e q more =
        let at : m ≡ n = grind arith in
        let zero_place : 0 ≡ i = grind arith in
        let is : slice_get (x ∷ ys) 0 ≡ Some y = subst (λ k. slice_get (x ∷ ys) k ≡ Some y) (sym zero_place) g in
        (l, f.0 ∙ ap at_node at, subst (P l) (same_one is) z.0)
      where
        same_one : Some x ≡ Some y → x ≡ y
        same_one q = cc
    go false e q more =
        let (j, pj, is) = some_suc (place_of nodes n) i q in
        more j pj (subst (λ k. slice_get (x ∷ ys) k ≡ Some y) (sym is) g)

module _ (s : ℕ) (ordering : List ℕ) (network : Network) (listed : ListsLive network ordering) where
  abbrev HD : DropEnds → Link → Type 0
  HD d l = HoldsDrop s ordering network listed d l

  -- ---- the middle matrix
  pub middles_hold : (drops : List DropEnds) (links : List Link) → HoldDrops s ordering network listed drops links → (rows after : List (List Rectangle)) (f : ℕ → ℕ → Complex) → with_middles s drops rows ≡ Some after
      → Held s ordering f rows → Held s ordering (λ n k. f n k ⊕ link_entry (λ l. l.middle) links n k) after
  middles_hold [] [] h rows after f e held = let is : rows ≡ after = cc in subst (Held s ordering (λ n k. f n k ⊕ nought)) is (held_along s ordering f (λ n k. f n k ⊕ nought) rows (λ n k. plus-none (f n k) nought (same _)) held)
  middles_hold [] (l ∷ links) h rows after f e held = absurd h
  middles_hold (d ∷ drops) [] h rows after f e held = absurd h
  middles_hold (d ∷ drops) (l ∷ links) h rows after f e held =
      let (more, e2, n2) = bind-some _ _ after e in
      let one = pairs_hold s ordering listed.distinct d.middle l.middle h.0.middle d.taps l.taps h.0.taps d.taps l.taps h.0.taps d.pairs h.0.pairs rows more f e2 held in
      let out : Held s ordering (λ n k. f n k ⊕ pair_entry l.out l.taps l.middle n k) more = subst (λ o. Held s ordering (λ n k. f n k ⊕ pair_entry o l.taps l.middle n k) more) (sym h.0.out) one in
      held_along s ordering (λ n k. (f n k ⊕ pair_entry l.out l.taps l.middle n k) ⊕ link_entry (λ l. l.middle) links n k) (λ n k. f n k ⊕ link_entry (λ l. l.middle) (l ∷ links) n k) after
      (λ n k. regroup (f n k) (pair_entry l.out l.taps l.middle n k) (link_entry (λ l. l.middle) links n k))
      (middles_hold drops links h.1 more after (λ n k. f n k ⊕ pair_entry l.out l.taps l.middle n k) n2 out)
    where
      regroup : (a b c : Complex) → (a ⊕ b) ⊕ c ≈ a ⊕ (b ⊕ c)
      regroup a b c = ring R (a ∷ b ∷ c ∷ []) (search reads depth 40 fits 4000) none_left

  module _ (C : ℕ → ℕ → Complex) (cs : List (List Rectangle)) (C_held : Held s ordering C cs) (drops : List DropEnds) (links : List Link) (held : HoldDrops s ordering network listed drops links) where
    -- the drops by their links
    by_links : AllZip (λ l d. HD d l) links drops
    by_links = zip_back HD (λ l d. HD d l) (λ d l h. h) drops links held

    -- ---- voltages
    voltages_one : (l : Link) (d : DropEnds) (v : List Rectangle) → HD d l → voltages s cs d.taps ≡ Some v → HoldsRow s ordering (λ n. drop (C n) l.taps) v
    voltages_one l d v h e =
        each_holds (λ n row. HoldsRow s ordering (C n) row) (λ n a. EnclosesComplex s a (drop (C n) l.taps)) (λ row. drop_over s d.taps row)
        (λ n row a hr k. drop_over_holds s ordering (C n) row hr d.taps l.taps h.taps a k) ordering cs v C_held e

    pub voltages_hold : (vs : List (List Rectangle)) → all_voltages s cs drops ≡ Some vs → AllZip (λ l v. HoldsRow s ordering (λ n. drop (C n) l.out) v) links vs
    voltages_hold vs e =
        each_holds (λ l d. HD d l) (λ l v. HoldsRow s ordering (λ n. drop (C n) l.out) v) (λ d. voltages s cs d.taps)
        (λ l d v h k. subst (λ o. HoldsRow s ordering (λ n. drop (C n) o) v) (sym h.out) (voltages_one l d v h k)) links drops vs by_links e

    -- at the drop of a node alone they are C's column
    pub column_holds : (vs : List (List Rectangle)) → all_voltages s cs drops ≡ Some vs → NodesFirst ordering links → (k i : ℕ) (column : List Rectangle) → place_of ordering k ≡ Some i → slice_get vs i ≡ Some column → HoldsRow s ordering (λ n. C n k) column
    column_holds vs e first k i column p g =
        let by_taps = each_holds (λ l d. HD d l) (λ l v. HoldsRow s ordering (λ n. drop (C n) l.taps) v) (λ d. voltages s cs d.taps) (λ l d v h q. voltages_one l d v h q) links drops vs by_links e in
        let (l, at, h) = first_with (λ l v. HoldsRow s ordering (λ n. drop (C n) l.taps) v) ordering links vs k i column p g first by_taps in
        row_along s ordering (λ n. drop (C n) (at_node k)) (λ n. C n k) column (λ n. drop-node (C n) k real-unit) (subst (λ f. HoldsRow s ordering (λ n. drop (C n) f) column) at h)

    module _ (vs : List (List Rectangle)) (hv : AllZip (λ l v. HoldsRow s ordering (λ n. drop (C n) l.out) v) links vs) where
      -- ---- bounds
      pub transfers_bound : (rows : List (List ℕ)) → each (λ d. drop_sizes s d.taps vs) drops ≡ Some rows → AllZip (λ f row. AllZip (λ g k. complex_size (transfer C f.taps g.out) ≼ units s k) links row) links rows
      transfers_bound rows e = each_holds (λ l d. HD d l) (λ f row. AllZip (λ g k. complex_size (transfer C f.taps g.out) ≼ units s k) links row) (λ d. drop_sizes s d.taps vs) one links drops rows by_links e
        where
          one : (f : Link) (d : DropEnds) (row : List ℕ) → HD d f → drop_sizes s d.taps vs ≡ Some row → AllZip (λ g k. complex_size (transfer C f.taps g.out) ≼ units s k) links row
          one f d row h e =
              each_holds (λ g v. HoldsRow s ordering (λ n. drop (C n) g.out) v) (λ g k. complex_size (transfer C f.taps g.out) ≼ units s k) (λ v. drop_over s d.taps v >>= kept_size)
              (λ g v k hg q. let (a, e1, e2) = bind-some _ _ k q in size_kept s a (transfer C f.taps g.out) k (drop_over_holds s ordering (λ n. drop (C n) g.out) v hg d.taps f.taps h.taps a e1) e2)
              links vs row hv e

      pub rests_bound : (ks : List ℕ) → each (λ d. kept_size d.rest) drops ≡ Some ks → AllZip (λ l k. complex_size l.rest ≼ units s k) links ks
      rests_bound ks e = each_holds (λ l d. HD d l) (λ l k. complex_size l.rest ≼ units s k) (λ d. kept_size d.rest) (λ l d k h q. size_kept s d.rest l.rest k h.rest q) links drops ks by_links e

      -- ---- the correction
      module _ (k i : ℕ) (place : place_of ordering k ≡ Some i) where
        pub correction_holds : (ds : List DropEnds) (ls : List Link) (us : List (List Rectangle)) (xs : List Rectangle) → HoldDrops s ordering network listed ds ls → AllZip (λ l v. HoldsRow s ordering (λ n. drop (C n) l.out) v) ls us
            → AllZip (λ l x. EnclosesComplex s x (drop (λ n. C n k) l.taps)) ls xs → (sum after : Rectangle) (z : Complex) → correction s i sum ds us xs ≡ Some after → EnclosesComplex s sum z
            → EnclosesComplex s after (z ⊕ total complex_numbers (λ l. drop (C k) l.out ⊗ drop (λ n. C n k) l.taps ⊗ l.rest) ls)
        unfolding moved
        correction_holds [] [] us xs hd hu hx sum after z e hz = let is : sum ≡ after = cc in subst (λ r. EnclosesComplex s r (z ⊕ nought)) is (along s sum z (z ⊕ nought) (plus-none z nought (same _)) hz)
        correction_holds [] (l ∷ ls) us xs hd hu hx sum after z e hz = absurd hd
        correction_holds (d ∷ ds) [] us xs hd hu hx sum after z e hz = absurd hd
        correction_holds (d ∷ ds) (l ∷ ls) [] xs hd hu hx sum after z e hz = absurd hu
        correction_holds (d ∷ ds) (l ∷ ls) (v ∷ us) [] hd hu hx sum after z e hz = absurd hx
        correction_holds (d ∷ ds) (l ∷ ls) (v ∷ us) (x ∷ xs) hd hu hx sum after z e hz =
            let (more, e0, n3) = bind-some _ _ after e in
            let (voltage, e1, n1) = bind-some _ _ more e0 in
            let (term, e2, e3) = bind-some _ _ more n1 in
            let K = drop (C k) l.out in
            let X = drop (λ n. C n k) l.taps in
            let hk = item_at (λ n a. EnclosesComplex s a (drop (C n) l.out)) k ordering v i voltage place e1 hu.0 in
            let ht = moved_holds voltage x d.rest term K X l.rest hk hx.0 hd.0.rest e2 in
            let hm = add_encloses_rectangle s sum term more z (K ⊗ X ⊗ l.rest) hz ht e3 in
            along s after _ _ (regroup z (K ⊗ X ⊗ l.rest) (total complex_numbers (λ l. drop (C k) l.out ⊗ drop (λ n. C n k) l.taps ⊗ l.rest) ls)) (correction_holds ds ls us xs hd.1 hu.1 hx.1 more after (z ⊕ K ⊗ X ⊗ l.rest) n3 hm)
          where
            regroup : (a b c : Complex) → (a ⊕ b) ⊕ c ≈ a ⊕ (b ⊕ c)
            regroup a b c = ring R (a ∷ b ∷ c ∷ []) (search reads depth 40 fits 4000) none_left

            moved_holds : (a b c t : Rectangle) (K X D : Complex) → EnclosesComplex s a K → EnclosesComplex s b X → EnclosesComplex s c D → moved s a b c ≡ Some t → EnclosesComplex s t (K ⊗ X ⊗ D)
            moved_holds a b c t K X D ha hb hc e = go (mul_rectangles s a b >>= (λ ab. mul_rectangles s ab c)) refl e
              where
                turned : (a b c : Complex) → a ⊗ (b ⊗ c) ≈ a ⊗ b ⊗ c
                turned a b c = ring R (a ∷ b ∷ c ∷ []) (search reads depth 40 fits 4000) none_left

                go : (o : Option Rectangle) → (mul_rectangles s a b >>= (λ ab. mul_rectangles s ab c)) ≡ o → or_else o (mul_rectangles s b c >>= (λ bc. mul_rectangles s a bc)) ≡ Some t → EnclosesComplex s t (K ⊗ X ⊗ D)
                go (Some r) q f =
                    let (ab, e1, n1) = bind-some _ _ r q in
                    let is : r ≡ t = cc in
                    subst (λ u. EnclosesComplex s u (K ⊗ X ⊗ D)) is (mul_encloses_rectangle s ab c r (K ⊗ X) D (mul_encloses_rectangle s a b ab K X ha hb e1) hc n1)
                go None q f =
                    let (bc, e1, n1) = bind-some _ _ t f in
                    along s t _ _ (turned K X D) (mul_encloses_rectangle s a bc t K (X ⊗ D) ha (mul_encloses_rectangle s b c bc X D hb hc e1) n1)
