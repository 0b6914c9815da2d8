-- Whatever list of rectangles stands in the place of the inverse: what an enclosure says of each exact matrix that is held.
use Rattle.std.proofs.Common.{◌≡◌, ◌+◌, ◌-◌, ◌*◌, ◌^◌, ◌<◌, ◌≤◌, ◌≤ℤ◌, ◌*ℤ◌, Bool, true, false, ℕ, zero, suc, ℤ, pos, List, [], ◌∷◌, length, map, get_or, replicate, slice_get, Option, Some, None, Result, Ok, Err, refl, sym, ap, ◌∙◌, subst, arith, nat_le}
use Rattle.std.specs.Prelude.{if◌then◌else◌, option_map}
use Rattle.std.specs.List.{AllZip, AllByRecursion}
use Rattle.std.proofs.lemmas.Int.{ints}
use Rattle.std.proofs.lemmas.Nat.{pow_pos}
use Rattle.std.proofs.lemmas.Option.{slice_get-get_or, slice_get-map}
use Rattle.std.proofs.lemmas.List.{length-map}
use Rattle.std.proofs.lemmas.Bool.Decides.{nat_tests}
use Rattle.exact_algebra.specs.Ratio.{Ratio, den, whole, plus, times, opposite, ◌≈◌, Holds, ratio_numbers}
use Rattle.exact_algebra.specs.Complex.{Complex, complex_numbers, complex_plus, complex_times, complex_over, complex_difference, complex_size, real_part, imaginary_part, ◌≅◌}
use Rattle.exact_algebra.proofs.Complexes.{complex_field, complex_size-IsSize, re-complex_whole, im-complex_whole}
use Rattle.exact_algebra.proofs.Holding.{holds_along}
use Rattle.exact_algebra.proofs.Order.{NotNegative, ratio_order}
use Rattle.exact_algebra.proofs.Ratios.{ratio_ring, ratio_field, num-whole, den-whole}
use Rattle.exact_algebra.proofs.Reader.{reads, ring, linear, weigh, none_left}
use Rattle.exact_algebra.proofs.WholeOrder.{mul-le_left}
use Rattle.linear_systems.specs.Linear.{dot, less, IsSquare, HasOneSolution}
use Rattle.linear_systems.specs.Residual.{residual, residuals, unit_rows, zeros, sum_sizes}
use Rattle.linear_systems.proofs.Instances.{complex_certified}
use Rattle.linear_systems.proofs.Contraction as T
use Rattle.complex_interval.specs.Rectangles.{Rectangle, EnclosesComplex, IsAtLeastSize, sub_rectangles}
use Rattle.complex_interval.proofs.Sizes.{size_bound}
use Rattle.certified_inverse.specs.declared.outcome.InverseOutcome.{InverseOutcome}
use Rattle.certified_inverse.specs.declared.outcome.InverseOutcome.TheVariants.{Enclosed, NotContracting}
use Rattle.certified_inverse.specs.Certificate.{each_two, greatest, nought_rectangle, unit_row, bounded, valued, sum_products, rows_times, unit_rectangles, row_left, rows_left, row_size, column_of, ceil_over, IsOrderedRectangle, AreRectangles, IsEnclosed, CertificateHolds, EnclosureHolds, HoldsEnclosed, by_inverse, enclosure}
use Rattle.middle_inverse.specs.Inverse.{one_rectangle, size_of, middle_inverse}
use Rattle.middle_inverse.specs.declared.fault.InverseFault.{InverseFault}
use Rattle.middle_inverse.specs.declared.fault.InverseFault.TheVariants.{NoInverse as NoPivot, OutOfRange as NoValue}
use Rattle.certified_inverse.proofs.Shape.{inverse_shape}
use Rattle.certified_inverse.proofs.Raw.{raw, raw-plus, raw-not_negative, raw-more, size_raw, raw_size, raw-left, raw-apart, ceil_over-enough, error_enough, unscaled}
use Rattle.certified_inverse.proofs.Rows.{N, R, one, Held, along, row_along, and_then-some, add_times-holds, combination-holds, sub_row-holds, summed_first}

-- ---- points and units
abbrev low_value : ℕ → Rectangle → Complex
low_value s a = complex_over a.re.low a.im.low (2 ^ s)

end_held : (l h : ℤ) (p : ℕ) → l ≤ℤ h → (l *ℤ pos p) ≤ℤ (h *ℤ pos p)
end_held l h p k = let m = mul-le_left p l h k in omega (arith, ints)

pub low_held : (s : ℕ) (a : Rectangle) → IsOrderedRectangle a → EnclosesComplex s a (low_value s a)
unfolding real_part imaginary_part den
low_held s a o =
    let some = pow_pos s in
    let e : suc (2 ^ s - 1) ≡ 2 ^ s = omega arith in
    record {
      re = record { from = rw e (omega (arith, ints)); to = rw e (end_held a.re.low a.re.high (2 ^ s) o.re) };
      im = record { from = rw e (omega (arith, ints)); to = rw e (end_held a.im.low a.im.high (2 ^ s) o.im) };
    }

lows_held : (s : ℕ) (row : List Rectangle) → AllByRecursion IsOrderedRectangle row → Held s row (map (low_value s) row)
lows_held s [] o = tt
lows_held s (a ∷ row) o = (low_held s a o.0, lows_held s row o.1)

rows_held : (s : ℕ) (rows : List (List Rectangle)) → AllByRecursion (λ row. AllByRecursion IsOrderedRectangle row) rows → AllZip (Held s) rows (map (map (low_value s)) rows)
rows_held s [] o = tt
rows_held s (row ∷ rows) o = (lows_held s row o.0, rows_held s rows o.1)

zero_holds : (s : ℕ) → Holds (pos 0) (pos 0) s (whole (pos 0))
zero_holds s = record { from = rw (den-whole (pos 0), num-whole (pos 0)) (omega (arith, ints)); to = rw (den-whole (pos 0), num-whole (pos 0)) (omega (arith, ints)) }

one_holds : (s : ℕ) → Holds (pos (2 ^ s)) (pos (2 ^ s)) s (whole (pos 1))
one_holds s = record { from = rw (den-whole (pos 1), num-whole (pos 1)) (omega (arith, ints)); to = rw (den-whole (pos 1), num-whole (pos 1)) (omega (arith, ints)) }

nought_held : (s : ℕ) → EnclosesComplex s nought_rectangle N.nought
nought_held s = record { re = holds_along _ _ _ _ _ (ratio_ring.back (re-complex_whole (pos 0))) (zero_holds s); im = holds_along _ _ _ _ _ (ratio_ring.back (im-complex_whole (pos 0))) (zero_holds s) }

one_held : (s : ℕ) → EnclosesComplex s (one_rectangle s) N.unit
unfolding one_rectangle
one_held s = record { re = holds_along _ _ _ _ _ (ratio_ring.back (re-complex_whole (pos 1))) (one_holds s); im = holds_along _ _ _ _ _ (ratio_ring.back (im-complex_whole (pos 1))) (zero_holds s) }

zeros_held : (s n : ℕ) → Held s (replicate n nought_rectangle) (zeros N n)
zeros_held s zero = tt
zeros_held s (suc n) = (nought_held s, zeros_held s n)

later_held : (s : ℕ) (es : List (List Rectangle)) (us : List (List Complex)) → AllZip (Held s) es us → AllZip (Held s) (map (λ e. nought_rectangle ∷ e) es) (map (λ e. N.nought ∷ e) us)
later_held s [] [] h = tt
later_held s [] (u ∷ us) h = absurd h
later_held s (e ∷ es) [] h = absurd h
later_held s (e ∷ es) (u ∷ us) h = ((nought_held s, h.0), later_held s es us h.1)

units_held : (s n : ℕ) → AllZip (Held s) (unit_rectangles s n) (unit_rows N n)
units_held s zero = tt
units_held s (suc n) = ((one_held s, zeros_held s n), later_held s (unit_rectangles s n) (unit_rows N n) (units_held s n))

replicate_held : (s n : ℕ) → Held s (replicate n nought_rectangle) (replicate n N.nought)
replicate_held s zero = tt
replicate_held s (suc n) = (nought_held s, replicate_held s n)

unit_row_held : (s n k : ℕ) → Held s (unit_row (one_rectangle s) nought_rectangle n k) (unit_row N.unit N.nought n k)
unit_row_held s zero k = tt
unit_row_held s (suc n) zero = (one_held s, replicate_held s n)
unit_row_held s (suc n) (suc k) = (nought_held s, unit_row_held s n k)

length-replicated : (n : ℕ) → length (replicate n N.nought) ≡ n
length-replicated zero = refl
length-replicated (suc n) = ap suc (length-replicated n)

length-unit_row : (n k : ℕ) → length (unit_row N.unit N.nought n k) ≡ n
length-unit_row zero k = refl
length-unit_row (suc n) zero = ap suc (length-replicated n)
length-unit_row (suc n) (suc k) = ap suc (length-unit_row n k)

length-zeros : (n : ℕ) → length (zeros N n) ≡ n
length-zeros zero = refl
length-zeros (suc n) = ap suc (length-zeros n)

later_widths : (n : ℕ) (us : List (List Complex)) → AllByRecursion (λ e. length e ≡ n) us → AllByRecursion (λ e. length e ≡ suc n) (map (λ e. N.nought ∷ e) us)
later_widths n [] h = tt
later_widths n (u ∷ us) h = (ap suc h.0, later_widths n us h.1)

unit_widths : (n : ℕ) → AllByRecursion (λ e. length e ≡ n) (unit_rows N n)
unit_widths zero = tt
unit_widths (suc n) = (ap suc (length-zeros n), later_widths n (unit_rows N n) (unit_widths n))

same_length : {X Y : Type 0} (P : X → Y → Type 0) (xs : List X) (ys : List Y) → AllZip P xs ys → length xs ≡ length ys
same_length P [] [] h = refl
same_length P [] (y ∷ ys) h = absurd h
same_length P (x ∷ xs) [] h = absurd h
same_length P (x ∷ xs) (y ∷ ys) h = ap suc (same_length P xs ys h.1)

-- ---- theta
noughts_held : (s : ℕ) (e : List Rectangle) (es : List Complex) → Held s e es → Held s (map (λ _. nought_rectangle) e) (map (λ _. N.nought) es)
noughts_held s [] [] h = tt
noughts_held s [] (c ∷ es) h = absurd h
noughts_held s (a ∷ e) [] h = absurd h
noughts_held s (a ∷ e) (c ∷ es) h = (nought_held s, noughts_held s e es h.1)

less_noughts : (es : List Complex) → AllZip ◌≅◌ (less N one (map (λ _. N.nought) es) es) es
less_noughts [] = tt
less_noughts (c ∷ es) = (ring R (c ∷ []) (search reads depth 40 fits 4000) none_left, less_noughts es)

length-noughts : (es : List Complex) → length (map (λ _. N.nought) es) ≡ length es
length-noughts [] = refl
length-noughts (c ∷ es) = ap suc (length-noughts es)

row_left-holds : (s : ℕ) (ys : List (List Rectangle)) (e cs new : List Rectangle) (us : List (List Complex)) (es gs : List Complex) → row_left s ys e cs ≡ Some new → AllZip (Held s) ys us → AllByRecursion (λ u. length u ≡ length es) us → Held s e es → Held s cs gs
    → Held s new (residual N gs us es)
row_left-holds s ys e cs new us es gs k hy w he hc =
    let (sums, ek, k) = and_then-some _ _ _ k in
    let h = combination-holds s (map (λ _. nought_rectangle) e) cs ys sums (map (λ _. N.nought) es) gs us ek (noughts_held s e es he) hc hy in
    row_along s new _ _ (summed_first gs us (map (λ _. N.nought) es) es es w (length-noughts es) (less_noughts es)) (sub_row-holds s e sums new es _ k he h)

widths_along : (n m : ℕ) (us : List (List Complex)) → n ≡ m → AllByRecursion (λ u. length u ≡ n) us → AllByRecursion (λ u. length u ≡ m) us
widths_along n m us e w = subst (λ i. AllByRecursion (λ u. length u ≡ i) us) e w

rows_left-hold : (s n : ℕ) (ys es cs new : List (List Rectangle)) (us fs gs : List (List Complex)) → rows_left s es cs ys ≡ Some new → AllZip (Held s) ys us → AllByRecursion (λ u. length u ≡ n) us → AllZip (Held s) es fs → AllByRecursion (λ e. length e ≡ n) fs → AllZip (Held s) cs gs
    → AllZip (Held s) new (residuals N gs us fs)
rows_left-hold s n ys [] [] new us [] [] k hy w he wf hc = let q : [] ≡ new = cc in subst (λ r. AllZip (Held s) r []) q tt
rows_left-hold s n ys [] [] new us [] (g ∷ gs) k hy w he wf hc = absurd hc
rows_left-hold s n ys [] [] new us (f ∷ fs) gs k hy w he wf hc = absurd he
rows_left-hold s n ys [] (c ∷ cs) new us fs gs k hy w he wf hc = absurd cc
rows_left-hold s n ys (e ∷ es) [] new us fs gs k hy w he wf hc = absurd cc
rows_left-hold s n ys (e ∷ es) (c ∷ cs) new us [] gs k hy w he wf hc = absurd he
rows_left-hold s n ys (e ∷ es) (c ∷ cs) new us (f ∷ fs) [] k hy w he wf hc = absurd hc
rows_left-hold s n ys (e ∷ es) (c ∷ cs) new us (f ∷ fs) (g ∷ gs) k hy w he wf hc =
    let (d, ed, k) = and_then-some _ _ _ k in
    let (ds, eds, k) = and_then-some _ _ _ k in
    let q : d ∷ ds ≡ new = cc in
    subst (λ r. AllZip (Held s) r (residual N g us f ∷ residuals N gs us fs)) q
    (row_left-holds s ys e c d us f g ed hy (widths_along n (length f) us (sym wf.0) w) he.0 hc.0, rows_left-hold s n ys es cs ds us fs gs eds hy w he.1 wf.1 hc.1)

size_bounded : (s : ℕ) (a : Rectangle) (z : Complex) → EnclosesComplex s a z → NotNegative (plus (raw s (size_of a)) (opposite (complex_size z)))
unfolding size_of
size_bounded s a z h = size_raw s _ z (size_bound s a z h)

row_bounded : (s : ℕ) (row : List Rectangle) (r : List Complex) → Held s row r → NotNegative (plus (raw s (row_size row)) (opposite (sum_sizes complex_numbers ratio_numbers complex_size r)))
row_bounded s [] [] h = ratio_order.along (ring ratio_ring (raw s 0 ∷ []) (search reads depth 40 fits 4000) none_left) (raw-not_negative s 0)
row_bounded s [] (c ∷ r) h = absurd h
row_bounded s (a ∷ row) [] h = absurd h
row_bounded s (a ∷ row) (c ∷ r) h =
    let t = sum_sizes complex_numbers ratio_numbers complex_size r in
    ratio_order.along
    (linear ratio_ring (raw s (size_of a + row_size row) ∷ raw s (size_of a) ∷ raw s (row_size row) ∷ complex_size c ∷ t ∷ [])
    (weigh ratio_ring (opposite (whole (pos 1))) (raw-plus s (size_of a) (row_size row))) (search reads depth 40 fits 4000) none_left)
    (ratio_order.sum (size_bounded s a c h.0) (row_bounded s row r h.1))

-- a bound of a number is one of what that bounds
raise : (s m n : ℕ) (t : Ratio) → m ≤ n → NotNegative (plus (raw s m) (opposite t)) → NotNegative (plus (raw s n) (opposite t))
raise s m n t l h = ratio_order.along (ring ratio_ring (raw s m ∷ raw s n ∷ t ∷ []) (search reads depth 40 fits 4000) none_left) (ratio_order.sum (raw-more s m n l) h)

rows_bounded : (s m : ℕ) (rows : List (List Rectangle)) (rs : List (List Complex)) → greatest (map row_size rows) ≤ m → AllZip (Held s) rows rs
    → AllByRecursion (λ r. NotNegative (plus (raw s m) (opposite (sum_sizes complex_numbers ratio_numbers complex_size r)))) rs
rows_bounded s m [] [] l h = tt
rows_bounded s m [] (r ∷ rs) l h = absurd h
rows_bounded s m (row ∷ rows) [] l h = absurd h
rows_bounded s m (row ∷ rows) (r ∷ rs) l h = (raise s (row_size row) m _ (omega arith) (row_bounded s row r h.0), rows_bounded s m rows rs (omega arith) h.1)

-- ---- sigma
sum_products-holds : (s : ℕ) (sum : Rectangle) (cs xs : List Rectangle) (v : Rectangle) (t : Complex) (gs zs : List Complex) → sum_products s sum cs xs ≡ Some v → EnclosesComplex s sum t → Held s cs gs → Held s xs zs → EnclosesComplex s v (complex_plus t (dot N gs zs))
sum_products-holds s sum [] [] v t [] [] k ht hc hx =
    let q : sum ≡ v = cc in
    let p : t ≅ complex_plus t N.nought = ring R (t ∷ []) (search reads depth 40 fits 4000) none_left in
    subst (λ r. EnclosesComplex s r (complex_plus t N.nought)) q (along s sum t (complex_plus t N.nought) p ht)
sum_products-holds s sum [] [] v t [] (z ∷ zs) k ht hc hx = absurd hx
sum_products-holds s sum [] [] v t (g ∷ gs) zs k ht hc hx = absurd hc
sum_products-holds s sum [] (x ∷ xs) v t gs zs k ht hc hx = absurd cc
sum_products-holds s sum (c ∷ cs) [] v t gs zs k ht hc hx = absurd cc
sum_products-holds s sum (c ∷ cs) (x ∷ xs) v t [] zs k ht hc hx = absurd hc
sum_products-holds s sum (c ∷ cs) (x ∷ xs) v t (g ∷ gs) [] k ht hc hx = absurd hx
sum_products-holds s sum (c ∷ cs) (x ∷ xs) v t (g ∷ gs) (z ∷ zs) k ht hc hx =
    let (more, em, k) = and_then-some _ _ _ k in
    let h = sum_products-holds s more cs xs v (complex_plus t (complex_times g z)) gs zs k (add_times-holds s c sum x more g t z em hc.0 ht hx.0) hc.1 hx.1 in
    along s v _ _ (ring R (t ∷ g ∷ z ∷ dot N gs zs ∷ []) (search reads depth 40 fits 4000) none_left) h

rows_times-hold : (s : ℕ) (rows : List (List Rectangle)) (xs values : List Rectangle) (rs : List (List Complex)) (zs : List Complex) → rows_times s rows xs ≡ Some values → AllZip (Held s) rows rs → Held s xs zs → Held s values (map (λ r. dot N r zs) rs)
rows_times-hold s [] xs values [] zs k h hx = let q : [] ≡ values = cc in subst (λ r. Held s r []) q tt
rows_times-hold s [] xs values (r ∷ rs) zs k h hx = absurd h
rows_times-hold s (row ∷ rows) xs values [] zs k h hx = absurd h
rows_times-hold s (row ∷ rows) xs values (r ∷ rs) zs k h hx =
    let (d, ed, k) = and_then-some _ _ _ k in
    let (ds, eds, k) = and_then-some _ _ _ k in
    let q : d ∷ ds ≡ values = cc in
    let h0 = sum_products-holds s nought_rectangle row xs d N.nought r zs ed (nought_held s) h.0 hx in
    subst (λ v. Held s v (dot N r zs ∷ map (λ r. dot N r zs) rs)) q
    (along s d _ _ (ring R (dot N r zs ∷ []) (search reads depth 40 fits 4000) none_left) h0, rows_times-hold s rows xs ds rs zs eds h.1 hx)

moved_bounded : (s m : ℕ) (moved : List Rectangle) (gs : List (List Complex)) (zs : List Complex) → greatest (map size_of moved) ≤ m → Held s moved (map (λ g. dot N g zs) gs)
    → AllByRecursion (λ g. NotNegative (plus (raw s m) (opposite (complex_size (dot N g zs))))) gs
moved_bounded s m [] [] zs l h = tt
moved_bounded s m [] (g ∷ gs) zs l h = absurd h
moved_bounded s m (a ∷ moved) [] zs l h = absurd h
moved_bounded s m (a ∷ moved) (g ∷ gs) zs l h = (raise s (size_of a) m _ (omega arith) (size_bounded s a _ h.0), moved_bounded s m moved gs zs (omega arith) h.1)

-- ---- the column
element_has : {X : Type 0} (Q : X → Type 0) (xs : List X) (k : ℕ) (x : X) → slice_get xs k ≡ Some x → AllByRecursion Q xs → Q x
element_has Q [] k x e h = absurd cc
element_has Q (y ∷ xs) zero x e h = let q : y ≡ x = cc in subst Q q h.0
element_has Q (y ∷ xs) (suc k) x e h = element_has Q xs k x e h.1

column_ordered : (k : ℕ) (rows : List (List Rectangle)) (x : List Rectangle) → column_of k rows ≡ Some x → AllByRecursion (λ row. AllByRecursion IsOrderedRectangle row) rows → AllByRecursion IsOrderedRectangle x × (length x ≡ length rows)
column_ordered k [] x e h = let q : [] ≡ x = cc in subst (λ r. AllByRecursion IsOrderedRectangle r × (length r ≡ 0)) q (tt, refl)
column_ordered k (row ∷ rows) x e h =
    let (d, ed, e) = and_then-some _ _ _ e in
    let (ds, eds, e) = and_then-some _ _ _ e in
    let q : d ∷ ds ≡ x = cc in
    let r = column_ordered k rows ds eds h.1 in
    subst (λ r. AllByRecursion IsOrderedRectangle r × (length r ≡ suc (length rows))) q ((element_has IsOrderedRectangle row k d ed h.0, r.0), ap suc r.1)

difference_at : (Q : Complex → Type 0) (k : ℕ) (near x : List Complex) → k < length near → length near ≡ length x → AllByRecursion Q (less N one near x) → Q (N.◌⊕◌ (get_or x k N.nought) (N.minus (N.◌⊗◌ one (get_or near k N.nought))))
difference_at Q k [] x l e h = absurd (omega arith)
difference_at Q k (c ∷ near) [] l e h = absurd (omega arith)
difference_at Q zero (c ∷ near) (d ∷ x) l e h = h.0
difference_at Q (suc k) (c ∷ near) (d ∷ x) l e h = difference_at Q k near x (omega arith) (omega arith) h.1

value_at : (s k : ℕ) (x : List Rectangle) (v : Rectangle) → slice_get x k ≡ Some v → k < length x → get_or (map (low_value s) x) k N.nought ≡ low_value s v
value_at s k x v e l =
    let m : slice_get (map (low_value s) x) k ≡ Some (low_value s v) = slice_get-map (low_value s) x k ∙ ap (option_map (low_value s)) e in
    let g : slice_get (map (low_value s) x) k ≡ Some (get_or (map (low_value s) x) k N.nought) = slice_get-get_or (map (low_value s) x) k N.nought (rw (length-map x (low_value s)) l) in
    cc

-- ---- the answer
bounded-enclosed : (o : Option ℕ) (f : ℕ → InverseOutcome) (re im : ℤ) (error : ℕ) → bounded o f ≡ Enclosed re im error → (n : ℕ) × (o ≡ Some n) × (f n ≡ Enclosed re im error)
bounded-enclosed None f re im error e = absurd cc
bounded-enclosed (Some n) f re im error e = (n, refl, test (nat_le n (2 ^ 62)) e)
  where
    test : (t : Bool) → valued (if t then Some n else None) f ≡ Enclosed re im error → f n ≡ Enclosed re im error
    test true e = e
    test false e = absurd cc

valued-enclosed : {X : Type 0} (o : Option X) (f : X → InverseOutcome) (re im : ℤ) (error : ℕ) → valued o f ≡ Enclosed re im error → (x : X) × (o ≡ Some x) × (f x ≡ Enclosed re im error)
valued-enclosed None f re im error e = absurd cc
valued-enclosed (Some x) f re im error e = (x, refl, e)

unless-contracting : (t : Bool) (theta : ℕ) (o : InverseOutcome) (re im : ℤ) (error : ℕ) → (if t then NotContracting theta else o) ≡ Enclosed re im error → (t ≡ false) × (o ≡ Enclosed re im error)
unless-contracting true theta o re im error e = absurd cc
unless-contracting false theta o re im error e = (refl, e)

below_one : (p theta : ℕ) → nat_le p theta ≡ false → theta < p
below_one p theta e = grind (arith, nat_tests)

some_same : {X : Type 0} (x y : X) → Some x ≡ Some y → x ≡ y
some_same x y e = cc

enclosed_same : (a b c d : ℤ) (m n : ℕ) → Enclosed a b m ≡ Enclosed c d n → (a ≡ c) × (b ≡ d) × (m ≡ n)
enclosed_same a b c d m n e = (cc, cc, cc)

point_same : (s : ℕ) (v : Rectangle) (re im : ℤ) → v.re.low ≡ re → v.im.low ≡ im → low_value s v ≡ complex_over re im (2 ^ s)
point_same s v re im p q = cc

-- ---- both parts of the law, from what the rectangles hold
core : (s n k theta sigma error : ℕ) (gs us : List (List Complex)) (near : List Complex) → theta < 2 ^ s → sigma * 2 ^ s ≤ error * (2 ^ s - theta) → k < n → length gs ≡ n → length near ≡ n → IsSquare N n us
    → AllByRecursion (λ r. NotNegative (plus (raw s theta) (opposite (sum_sizes complex_numbers ratio_numbers complex_size r)))) (residuals N gs us (unit_rows N n))
    → AllByRecursion (λ g. NotNegative (plus (raw s sigma) (opposite (complex_size (dot N g (less N one (map (λ u. dot N u near) us) (unit_row N.unit N.nought n k))))))) gs
    → (o : HasOneSolution N n us (unit_row N.unit N.nought n k)) × NotNegative (plus (raw s error) (opposite (complex_size (N.◌⊕◌ (get_or o.solution k N.nought) (N.minus (N.◌⊗◌ one (get_or near k N.nought)))))))
core s n k theta sigma error gs us near lt le lk lg ln square t m =
    let right = unit_row N.unit N.nought n k in
    let left = 2 ^ s - theta in
    let L = raw s left in
    let one_less = plus (whole (pos 1)) (opposite (raw s theta)) in
    let h : one_less ≈ L = raw-left s theta (omega arith) in
    let below : NotNegative one_less = ratio_order.along (ratio_ring.back h) (raw-not_negative s left) in
    let apart : ¬ (one_less ≈ whole (pos 0)) = λ z. raw-apart s left (omega arith) (ratio_ring.next (ratio_ring.back h) z) in
    let o = complex_certified (raw s theta) below apart n gs us lg square t right (length-unit_row n k) in
    let d = T.near_solution complex_numbers ratio_numbers complex_field ratio_field NotNegative ratio_order complex_size complex_size-IsSize (raw s theta) (raw s sigma) below (raw-not_negative s sigma) n gs us o.solution near right lg o.count ln t m o.solves in
    let size : Ratio = complex_size (N.◌⊕◌ (get_or o.solution k N.nought) (N.minus (N.◌⊗◌ one (get_or near k N.nought)))) in
    let at_k : NotNegative (plus (raw s sigma) (opposite (times one_less size))) =
    difference_at (λ z. NotNegative (plus (raw s sigma) (opposite (times one_less (complex_size z))))) k near o.solution (omega arith) (ln ∙ sym o.count) d in
    let enough : NotNegative (plus (times (raw s error) L) (opposite (raw s sigma))) = error_enough s sigma left error le in
    let scaled : NotNegative (times L (plus (raw s error) (opposite size))) =
    ratio_order.along
    (linear ratio_ring (raw s sigma ∷ raw s error ∷ L ∷ raw s theta ∷ size ∷ []) (weigh ratio_ring (opposite size) h) (search reads depth 40 fits 4000) none_left)
    (ratio_order.sum at_k enough) in
    (o, unscaled L (plus (raw s error) (opposite size)) (raw-not_negative s left) (raw-apart s left (omega arith)) scaled)

size_along : (s error : ℕ) (a b : Complex) → a ≅ b → NotNegative (plus (raw s error) (opposite (complex_size a))) → NotNegative (plus (raw s error) (opposite (complex_size b)))
size_along s error a b p h =
    ratio_order.along (linear ratio_ring (raw s error ∷ complex_size a ∷ complex_size b ∷ []) (weigh ratio_ring (opposite (whole (pos 1))) (complex_size-IsSize.along p)) (search reads depth 40 fits 4000) none_left) h

close_to : (s error : ℕ) (d z : Complex) → NotNegative (plus (raw s error) (opposite (complex_size (N.◌⊕◌ d (N.minus (N.◌⊗◌ one z)))))) → IsAtLeastSize s error (complex_difference d z)
close_to s error d z h =
    let p : N.◌⊕◌ d (N.minus (N.◌⊗◌ one z)) ≅ complex_difference d z = ring R (d ∷ z ∷ []) (search reads depth 40 fits 4000) none_left in
    raw_size s error (complex_difference d z) (size_along s error (N.◌⊕◌ d (N.minus (N.◌⊗◌ one z))) (complex_difference d z) p h)

pub certificate_holds : (s : ℕ) → CertificateHolds s
certificate_holds s n k cs ys re im error exact lk rectangles e square held =
    let (theta, et, e) = bounded-enclosed _ _ re im error e in
    let (small, e) = unless-contracting _ _ _ re im error e in
    let (x, ex, e) = valued-enclosed _ _ re im error e in
    let (sigma, es, e) = bounded-enclosed _ _ re im error e in
    let (value, ev, e) = valued-enclosed _ _ re im error e in
    let (err, ee, e) = bounded-enclosed _ (λ bound. Enclosed value.re.low value.im.low bound) re im error e in
    let (rows, er, et) = and_then-some _ _ _ et in
    let (left, el, es) = and_then-some _ _ _ es in
    let (moved, em, es) = and_then-some _ _ _ es in
    let (values, ea, el) = and_then-some _ _ _ el in
    let size : length ys ≡ n = same_length _ ys exact held ∙ square.count in
    let gs = map (map (low_value s)) cs in
    let near = map (low_value s) x in
    let hc = rows_held s cs rectangles.ordered in
    let col = column_ordered k cs x ex rectangles.ordered in
    let hx = lows_held s x col.0 in
    let lt : theta < 2 ^ s = below_one (2 ^ s) theta small in
    let top : greatest (map row_size rows) ≡ theta = some_same _ _ et in
    let er' : rows_left s (unit_rectangles s n) cs ys ≡ Some rows = subst (λ i. rows_left s (unit_rectangles s i) cs ys ≡ Some rows) size er in
    let t = rows_bounded s theta rows (residuals N gs exact (unit_rows N n)) (omega arith) (rows_left-hold s n ys (unit_rectangles s n) cs rows exact (unit_rows N n) gs er' held square.widths (units_held s n) (unit_widths n) hc) in
    let el' : each_two sub_rectangles (unit_row (one_rectangle s) nought_rectangle n k) values ≡ Some left = subst (λ i. each_two sub_rectangles (unit_row (one_rectangle s) nought_rectangle i k) values ≡ Some left) size el in
    let hv = rows_times-hold s ys x values exact near ea held hx in
    let hl = sub_row-holds s _ values left _ _ el' (unit_row_held s n k) hv in
    let hm = rows_times-hold s cs left moved gs _ em hc hl in
    let most : greatest (map size_of moved) ≡ sigma = some_same _ _ es in
    let m = moved_bounded s sigma moved gs _ (omega arith) hm in
    let up : ceil_over (sigma * 2 ^ s) (2 ^ s - theta) ≡ err = some_same _ _ ee in
    let parts = enclosed_same _ _ re im err error e in
    let last : err ≡ error = parts.2 in
    let enough : sigma * 2 ^ s ≤ error * (2 ^ s - theta) = subst (λ i. sigma * 2 ^ s ≤ i * (2 ^ s - theta)) (up ∙ last) (ceil_over-enough (sigma * 2 ^ s) (2 ^ s - theta) (omega arith)) in
    let lx : length x ≡ n = col.1 ∙ rectangles.count in
    let ln : length near ≡ n = length-map x (low_value s) ∙ lx in
    let lg : length gs ≡ n = length-map cs (map (low_value s)) ∙ rectangles.count in
    let (o, close) = core s n k theta sigma error gs exact near lt enough lk lg ln square t m in
    let there : get_or near k N.nought ≡ low_value s value = value_at s k x value ev (omega arith) in
    let spot : low_value s value ≡ complex_over re im (2 ^ s) = point_same s value re im parts.0 parts.1 in
    let where_it_is : get_or near k N.nought ≡ complex_over re im (2 ^ s) = there ∙ spot in
    let d = get_or o.solution k N.nought in
    let at_point : NotNegative (plus (raw s error) (opposite (complex_size (N.◌⊕◌ d (N.minus (N.◌⊗◌ one (complex_over re im (2 ^ s)))))))) =
    subst (λ c. NotNegative (plus (raw s error) (opposite (complex_size (N.◌⊕◌ d (N.minus (N.◌⊗◌ one c))))))) where_it_is close in
    record { one = o; near = close_to s error d (complex_over re im (2 ^ s)) at_point }

-- so with the stated inverse
by_inverse_holds : (s n k : ℕ) (ys : List (List Rectangle)) (o : Result (List (List Rectangle)) InverseFault) (re im : ℤ) (error : ℕ) (exact : List (List Complex)) → middle_inverse s ys ≡ o → by_inverse s k ys o ≡ Enclosed re im error → k < n
    → IsSquare complex_numbers n exact → AllZip (λ row r. AllZip (EnclosesComplex s) row r) ys exact → IsEnclosed s n k re im error exact
by_inverse_holds s n k ys (Err (NoPivot column)) re im error exact m e lk square held = absurd cc
by_inverse_holds s n k ys (Err NoValue) re im error exact m e lk square held = absurd cc
by_inverse_holds s n k ys (Ok cs) re im error exact m e lk square held =
    let size : length ys ≡ n = same_length (λ row r. AllZip (EnclosesComplex s) row r) ys exact held ∙ square.count in
    certificate_holds s n k cs ys re im error exact lk (subst (λ i. AreRectangles i cs) size (inverse_shape s ys cs m)) e square held

pub enclosure_holds : (s : ℕ) → EnclosureHolds s
enclosure_holds s n k ys re im error exact lk e square held = by_inverse_holds s n k ys (middle_inverse s ys) re im error exact refl e lk square held

-- of an outcome that is the stated one
pub held_by : (s n k : ℕ) (ys : List (List Rectangle)) (outcome : InverseOutcome) → k < n → outcome ≡ enclosure s k ys → HoldsEnclosed s n k ys outcome
held_by s n k ys outcome lk stated re im error exact e square held = enclosure_holds s n k ys re im error exact lk (sym stated ∙ e) square held
