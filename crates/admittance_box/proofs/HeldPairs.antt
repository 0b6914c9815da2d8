-- The entries with a branch's admittance for each pair of its taps hold the exact ones.
use Rattle.std.proofs.Common.{◌≡◌, ◌≢◌, ◌∙◌, ℕ, zero, suc, List, [], ◌∷◌, ◌++◌, refl, sym, subst, pos, Option, ◌⊎◌, inl, inr}
use Rattle.std.specs.Prelude.{Some, None}
use Rattle.std.specs.List.{AllZip}
use Rattle.exact_algebra.specs.Ratio.{Ratio, times, whole, opposite}
use Rattle.exact_algebra.specs.Complex.{Complex, complex_numbers, real, real_part, imaginary_part, complex_scaled, complex_times}
use Rattle.exact_algebra.proofs.Complexes.{complex_field, re-complex_scaled, im-complex_scaled, re-complex_times, im-complex_times}
use Rattle.exact_algebra.proofs.Holding.{holds_along}
use Rattle.exact_algebra.proofs.Ratios.{ratio_ring}
use Rattle.exact_algebra.proofs.Reader.{reads, ring, linear, weigh, join, none_left}
use Rattle.exact_algebra.proofs.Reals.{re-real, im-real}
use Rattle.linear_systems.specs.Assembly.{where_equal}
use Rattle.complex_interval.specs.Ends.{Ends, Encloses, mul_ends}
use Rattle.complex_interval.specs.Rectangles.{Rectangle, EnclosesComplex}
use Rattle.complex_interval.proofs.RectangleLaws.{add_encloses_rectangle, scale_encloses_rectangle}
use Rattle.complex_interval.proofs.Held.{mul_encloses}
use Rattle.complex_interval.proofs.Ranges.{range_encloses}
use Rattle.network_theory.specs.Branch.{Tap}
use Rattle.network_theory.specs.Between.{TapUpTo}
use Rattle.network_theory.specs.Nodal.{IsDistinct, tap_entry, pair_entry}
use Rattle.network_theory.proofs.Numbers.{R, one_at, where_equal-is, one_at-apart}
use Rattle.plain_elimination.specs.Matrix.{set_entry}
use Rattle.admittance_box.specs.Addends.{PlacedTap, TapPair, tap_between, taps_between, pairs_with, tap_pairs}
use Rattle.admittance_box.specs.BoxMatrix.{grown, with_pairs}
use Rattle.admittance_box.specs.Places.{place_of}
use Rattle.admittance_box.specs.Steps.{◌>>=◌}
use Rattle.admittance_box.proofs.HeldEntries.{AtEntries, entry_set, entries_map}
use Rattle.admittance_box.proofs.Steps.{bind-some}
open complex_numbers use {◌≈◌, nought, unit, ◌⊕◌, ◌⊗◌, minus}
open complex_field use {same, back, next}

-- a rectangle that holds a number holds each equal one
pub along : (s : ℕ) (a : Rectangle) (z w : Complex) → z ≈ w → EnclosesComplex s a z → EnclosesComplex s a w
along s a z w e p = record { re = holds_along _ _ s _ _ e.re p.re; im = holds_along _ _ s _ _ e.im p.im }

-- a number scaled is its product
pub scaled-is : (z : Complex) (x : Ratio) → complex_scaled z x ≈ real x ⊗ z
scaled-is z x =
    let p = real_part (real x) in
    let q = imaginary_part (real x) in
    let a = real_part z in
    let b = imaginary_part z in
    let one = whole (pos 1) in
    record {
      re = linear ratio_ring (x ∷ p ∷ q ∷ a ∷ b ∷ real_part (complex_scaled z x) ∷ real_part (complex_times (real x) z) ∷ [])
          (join ratio_ring (weigh ratio_ring one (re-complex_scaled z x)) (join ratio_ring (weigh ratio_ring (opposite one) (re-complex_times (real x) z))
          (join ratio_ring (weigh ratio_ring (opposite a) (re-real x)) (weigh ratio_ring b (im-real x)))))
          (search reads depth 40 fits 4000) none_left;
      im = linear ratio_ring (x ∷ p ∷ q ∷ a ∷ b ∷ imaginary_part (complex_scaled z x) ∷ imaginary_part (complex_times (real x) z) ∷ [])
          (join ratio_ring (weigh ratio_ring one (im-complex_scaled z x)) (join ratio_ring (weigh ratio_ring (opposite one) (im-complex_times (real x) z))
          (join ratio_ring (weigh ratio_ring (opposite b) (re-real x)) (weigh ratio_ring (opposite a) (im-real x)))))
          (search reads depth 40 fits 4000) none_left;
    }

-- the rectangles hold f of each two nodes
abbrev pub Held : ℕ → List ℕ → (ℕ → ℕ → Complex) → List (List Rectangle) → Type 0
Held s ordering f rows = AtEntries (λ n k e. EnclosesComplex s e (f n k)) ordering ordering rows

pub held_along : (s : ℕ) (ordering : List ℕ) (f g : ℕ → ℕ → Complex) (rows : List (List Rectangle)) → ((n k : ℕ) → f n k ≈ g n k) → Held s ordering f rows → Held s ordering g rows
held_along s ordering f g rows e = entries_map (λ n k b. EnclosesComplex s b (f n k)) (λ n k b. EnclosesComplex s b (g n k)) (λ n k b. along s b (f n k) (g n k) (e n k)) ordering ordering rows

-- a placed tap stands for an exact one: its node's place, and its ratio
pub record HoldsTap (s : ℕ) (ordering : List ℕ) (p : PlacedTap) (v : Tap) : Type 0 where
  pub place : place_of ordering v.node ≡ Some p.place
  pub ratio : Encloses s p.ratio v.ratio

pub tap_holds : (s : ℕ) (ordering : List ℕ) (t u v : Tap) (p : PlacedTap) → TapUpTo t v → TapUpTo v u → tap_between s ordering t u ≡ Some p → HoldsTap s ordering p v
tap_holds s ordering t u v p a b e =
    let (place, e1, n1) = bind-some _ _ p e in
    let (ratio, e2, e3) = bind-some _ _ p n1 in
    let is : record { place = place; ratio = ratio } ≡ p = cc in
    subst (λ (q : PlacedTap). HoldsTap s ordering q v) is
    (record { place = subst (λ n. place_of ordering n ≡ Some place) a.node e1; ratio = range_encloses s t.ratio u.ratio v.ratio a.ratio b.ratio ratio e2 })

pub taps_hold : (s : ℕ) (ordering : List ℕ) (ts us vs : List Tap) (placed : List PlacedTap) → AllZip TapUpTo ts vs → AllZip TapUpTo vs us → taps_between s ordering ts us ≡ Some placed → AllZip (HoldsTap s ordering) placed vs
taps_hold s ordering [] us [] placed a b e = let is : [] ≡ placed = cc in subst (λ (l : List PlacedTap). AllZip (HoldsTap s ordering) l []) is tt
taps_hold s ordering [] us (v ∷ vs) placed a b e = absurd a
taps_hold s ordering (t ∷ ts) us [] placed a b e = absurd a
taps_hold s ordering (t ∷ ts) [] (v ∷ vs) placed a b e = absurd b
taps_hold s ordering (t ∷ ts) (u ∷ us) (v ∷ vs) placed a b e =
    let (tap, e1, n1) = bind-some _ _ placed e in
    let (taps, e2, e3) = bind-some _ _ placed n1 in
    let is : tap ∷ taps ≡ placed = cc in
    subst (λ l. AllZip (HoldsTap s ordering) l (v ∷ vs)) is (tap_holds s ordering t u v tap a.0 b.0 e1, taps_hold s ordering ts us vs taps a.1 b.1 e2)

-- what a pair of exact taps adds to the entry of two nodes
abbrev pair_of : Tap → Tap → Complex → ℕ → ℕ → Complex
pair_of v w z n k = where_equal complex_numbers v.node n (where_equal complex_numbers w.node k (real (times v.ratio w.ratio) ⊗ z))

pair-none : (v w : Tap) (z : Complex) (n k : ℕ) → ((n ≢ v.node) ⊎ (k ≢ w.node)) → pair_of v w z n k ≈ nought
pair-none v w z n k e = next (where_equal-is v.node n _) (by e)
  where
    x : Complex
    x = real (times v.ratio w.ratio) ⊗ z

    inside : Complex
    inside = where_equal complex_numbers w.node k (real (times v.ratio w.ratio) ⊗ z)

    first : (o a : Complex) → o ≈ nought → o ⊗ a ≈ nought
    first o a p = linear R (o ∷ a ∷ []) (weigh R a p) (search reads depth 40 fits 4000) none_left

    second : (o p a b : Complex) → a ≈ p ⊗ b → p ≈ nought → o ⊗ a ≈ nought
    second o p a b h q = linear R (o ∷ p ∷ a ∷ b ∷ []) (join R (weigh R o h) (weigh R (o ⊗ b) q)) (search reads depth 40 fits 4000) none_left

    by : (n ≢ v.node) ⊎ (k ≢ w.node) → one_at v.node n ⊗ inside ≈ nought
    by (inl ne) = first _ _ (one_at-apart v.node n (λ q. ne (sym q)))
    by (inr ne) = second _ _ _ _ (where_equal-is w.node k x) (one_at-apart w.node k (λ q. ne (sym q)))

pair-here : (v w : Tap) (z : Complex) → pair_of v w z v.node w.node ≈ real (times v.ratio w.ratio) ⊗ z
pair-here v w z = go v.node
  where
    inner : (k : ℕ) (x : Complex) → where_equal complex_numbers k k x ≈ x
    inner zero x = same _
    inner (suc k) x = inner k x

    go : (n : ℕ) → where_equal complex_numbers n n (where_equal complex_numbers w.node w.node (real (times v.ratio w.ratio) ⊗ z)) ≈ real (times v.ratio w.ratio) ⊗ z
    go n = next (inner n _) (inner w.node _)

pub plus-none : (a b : Complex) → b ≈ nought → a ≈ a ⊕ b
plus-none a b e = linear R (a ∷ b ∷ []) (weigh R (minus unit) e) (search reads depth 40 fits 4000) none_left

plus-same : (a b c : Complex) → b ≈ c → a ⊕ c ≈ a ⊕ b
plus-same a b c e = linear R (a ∷ b ∷ c ∷ []) (weigh R (minus unit) e) (search reads depth 40 fits 4000) none_left

module _ (s : ℕ) (ordering : List ℕ) (distinct : IsDistinct ordering) (y : Rectangle) (z : Complex) (y_held : EnclosesComplex s y z) where
  -- one pair
  grown_holds : (p q : PlacedTap) (v w : Tap) (factor : Ends) (rows after : List (List Rectangle)) (f : ℕ → ℕ → Complex) → HoldsTap s ordering p v → HoldsTap s ordering q w → mul_ends s p.ratio q.ratio ≡ Some factor
      → grown s y (record { row = p.place; column = q.place; factor = factor }) rows ≡ Some after → Held s ordering f rows → Held s ordering (λ n k. f n k ⊕ pair_of v w z n k) after
  grown_holds p q v w factor rows after f hp hq e g held =
      let (more, e1, n1) = bind-some _ _ after g in
      let (before, e2, n2) = bind-some _ _ after n1 in
      let (sum, e3, e4) = bind-some _ _ after n2 in
      let is : set_entry rows p.place q.place sum ≡ after = cc in
      let exact = real (times v.ratio w.ratio) ⊗ z in
      let more_held = along s more _ exact (scaled-is z (times v.ratio w.ratio)) (scale_encloses_rectangle s y more factor z (times v.ratio w.ratio) y_held (mul_encloses s p.ratio q.ratio v.ratio w.ratio hp.ratio hq.ratio factor e) e1) in
      let P : ℕ → ℕ → Rectangle → Type 0 = λ n k b. EnclosesComplex s b (f n k) in
      let Q : ℕ → ℕ → Rectangle → Type 0 = λ n k b. EnclosesComplex s b (f n k ⊕ pair_of v w z n k) in
      subst (Held s ordering (λ n k. f n k ⊕ pair_of v w z n k)) is
      (entry_set P Q v.node w.node ordering ordering rows p.place q.place before sum distinct distinct hp.place hq.place e2
      (λ n k b ne has. along s b (f n k) (f n k ⊕ pair_of v w z n k) (plus-none _ _ (pair-none v w z n k ne)) has)
      (λ has. along s sum _ _ (plus-same _ _ _ (pair-here v w z)) (add_encloses_rectangle s before more sum (f v.node w.node) exact has more_held e3))
      held)

  with_pairs-append : (xs ys : List TapPair) (rows : List (List Rectangle)) → with_pairs s y (xs ++ ys) rows ≡ (with_pairs s y xs rows >>= with_pairs s y ys)
  with_pairs-append [] ys rows = refl
  with_pairs-append (x ∷ xs) ys rows = go (grown s y x rows) (with_pairs-append xs ys)
    where
      go : (o : Option (List (List Rectangle))) → ((r : List (List Rectangle)) → with_pairs s y (xs ++ ys) r ≡ (with_pairs s y xs r >>= with_pairs s y ys)) → (o >>= with_pairs s y (xs ++ ys)) ≡ ((o >>= with_pairs s y xs) >>= with_pairs s y ys)
      go (Some r) h = h r
      go None h = refl

  -- the pairs of one tap
  row_holds : (p : PlacedTap) (v : Tap) → HoldsTap s ordering p v → (qs : List PlacedTap) (ws : List Tap) → AllZip (HoldsTap s ordering) qs ws → (pairs : List TapPair) → pairs_with s p qs ≡ Some pairs
      → (rows after : List (List Rectangle)) (f : ℕ → ℕ → Complex) → with_pairs s y pairs rows ≡ Some after → Held s ordering f rows → Held s ordering (λ n k. f n k ⊕ where_equal complex_numbers v.node n (tap_entry v ws z k)) after
  row_holds p v hp [] [] h pairs e rows after f g held =
      let none : [] ≡ pairs = cc in
      let is : rows ≡ after = cc in
      subst (Held s ordering (λ n k. f n k ⊕ where_equal complex_numbers v.node n nought)) is
      (held_along s ordering f (λ n k. f n k ⊕ where_equal complex_numbers v.node n nought) rows (λ n k. no_more v.node n (f n k)) held)
    where
      no_more : (m n : ℕ) (a : Complex) → a ≈ a ⊕ where_equal complex_numbers m n nought
      no_more m n a = linear R (a ∷ one_at m n ∷ where_equal complex_numbers m n nought ∷ []) (weigh R (minus unit) (where_equal-is m n nought)) (search reads depth 40 fits 4000) none_left
  row_holds p v hp [] (w ∷ ws) h pairs e rows after f g held = absurd h
  row_holds p v hp (q ∷ qs) [] h pairs e rows after f g held = absurd h
  row_holds p v hp (q ∷ qs) (w ∷ ws) h pairs e rows after f g held =
      let (pair, e0, n0) = bind-some _ _ pairs e in
      let (factor, e1, n1) = bind-some _ _ pair e0 in
      let (rest, e2, e3) = bind-some _ _ pairs n0 in
      let is_pair : record { row = p.place; column = q.place; factor = factor } ≡ pair = cc in
      let is : record { row = p.place; column = q.place; factor = factor } ∷ rest ≡ pairs = cc in
      let g' : with_pairs s y (record { row = p.place; column = q.place; factor = factor } ∷ rest) rows ≡ Some after = subst (λ l. with_pairs s y l rows ≡ Some after) (sym is) g in
      let (mid, g1, g2) = bind-some _ _ after g' in
      let one = grown_holds p q v w factor rows mid f hp h.0 e1 g1 held in
      let more = row_holds p v hp qs ws h.1 rest e2 mid after (λ n k. f n k ⊕ pair_of v w z n k) g2 one in
      held_along s ordering (λ n k. (f n k ⊕ pair_of v w z n k) ⊕ where_equal complex_numbers v.node n (tap_entry v ws z k)) (λ n k. f n k ⊕ where_equal complex_numbers v.node n (tap_entry v (w ∷ ws) z k)) after
      (λ n k. both v.node n (f n k) (where_equal complex_numbers w.node k (real (times v.ratio w.ratio) ⊗ z)) (tap_entry v ws z k)) more
    where
      both : (m n : ℕ) (a b c : Complex) → (a ⊕ where_equal complex_numbers m n b) ⊕ where_equal complex_numbers m n c ≈ a ⊕ where_equal complex_numbers m n (b ⊕ c)
      both m n a b c =
          linear R (a ∷ b ∷ c ∷ one_at m n ∷ where_equal complex_numbers m n b ∷ where_equal complex_numbers m n c ∷ where_equal complex_numbers m n (b ⊕ c) ∷ [])
          (join R (weigh R unit (where_equal-is m n b)) (join R (weigh R unit (where_equal-is m n c)) (weigh R (minus unit) (where_equal-is m n (b ⊕ c)))))
          (search reads depth 40 fits 4000) none_left

  -- all pairs of two lists of taps
  pub pairs_hold : (ps : List PlacedTap) (vs : List Tap) → AllZip (HoldsTap s ordering) ps vs → (qs : List PlacedTap) (ws : List Tap) → AllZip (HoldsTap s ordering) qs ws → (pairs : List TapPair) → tap_pairs s ps qs ≡ Some pairs
      → (rows after : List (List Rectangle)) (f : ℕ → ℕ → Complex) → with_pairs s y pairs rows ≡ Some after → Held s ordering f rows → Held s ordering (λ n k. f n k ⊕ pair_entry vs ws z n k) after
  pairs_hold [] [] a qs ws h pairs e rows after f g held =
      let none : [] ≡ pairs = cc in
      let is : rows ≡ after = cc in
      subst (Held s ordering (λ n k. f n k ⊕ nought)) is (held_along s ordering f (λ n k. f n k ⊕ nought) rows (λ n k. plus-none (f n k) nought (same _)) held)
  pairs_hold [] (v ∷ vs) a qs ws h pairs e rows after f g held = absurd a
  pairs_hold (p ∷ ps) [] a qs ws h pairs e rows after f g held = absurd a
  pairs_hold (p ∷ ps) (v ∷ vs) a qs ws h pairs e rows after f g held =
      let (row, e1, n1) = bind-some _ _ pairs e in
      let (rest, e2, e3) = bind-some _ _ pairs n1 in
      let is : row ++ rest ≡ pairs = cc in
      let g' : with_pairs s y (row ++ rest) rows ≡ Some after = subst (λ l. with_pairs s y l rows ≡ Some after) (sym is) g in
      let (mid, g1, g2) = bind-some _ _ after (sym (with_pairs-append row rest rows) ∙ g') in
      let one = row_holds p v a.0 qs ws h row e1 rows mid f g1 held in
      let more = pairs_hold ps vs a.1 qs ws h rest e2 mid after (λ n k. f n k ⊕ where_equal complex_numbers v.node n (tap_entry v ws z k)) g2 one in
      held_along s ordering (λ n k. (f n k ⊕ where_equal complex_numbers v.node n (tap_entry v ws z k)) ⊕ pair_entry vs ws z n k) (λ n k. f n k ⊕ pair_entry (v ∷ vs) ws z n k) after
      (λ n k. regroup (f n k) (where_equal complex_numbers v.node n (tap_entry v ws z k)) (pair_entry vs ws z n k)) more
    where
      regroup : (a b c : Complex) → (a ⊕ b) ⊕ c ≈ a ⊕ (b ⊕ c)
      regroup a b c = ring R (a ∷ b ∷ c ∷ []) (search reads depth 40 fits 4000) none_left

-- the admittance nought adds nothing
pub pairs-nought : (ts us : List Tap) (z : Complex) → z ≈ nought → (n k : ℕ) → pair_entry ts us z n k ≈ nought
pairs-nought [] us z e n k = same _
pairs-nought (t ∷ ts) us z e n k = step t.node n (tap_entry t us z k) _ (row us) (pairs-nought ts us z e n k)
  where
    step : (m n : ℕ) (a b : Complex) → a ≈ nought → b ≈ nought → where_equal complex_numbers m n a ⊕ b ≈ nought
    step m n a b p q =
        linear R (a ∷ b ∷ one_at m n ∷ where_equal complex_numbers m n a ∷ []) (join R (weigh R unit (where_equal-is m n a)) (join R (weigh R (one_at m n) p) (weigh R unit q))) (search reads depth 40 fits 4000) none_left

    scaled : (r a : Complex) → a ≈ nought → r ⊗ a ≈ nought
    scaled r a p = linear R (r ∷ a ∷ []) (weigh R r p) (search reads depth 40 fits 4000) none_left

    row : (us : List Tap) → tap_entry t us z k ≈ nought
    row [] = same _
    row (u ∷ us) = step u.node k _ _ (scaled (real (times t.ratio u.ratio)) z e) (row us)
