-- What drops of voltages, and the rows of (unit - C·P), hold node by node.
use Rattle.std.proofs.Common.{◌≡◌, ◌≢◌, ◌^◌, ℕ, zero, suc, pos, List, [], ◌∷◌, length, get_or, map, replicate, refl, sym, ap, subst, Some}
use Rattle.std.specs.List.{AllZip, AllByRecursion}
use Rattle.exact_algebra.specs.Complex.{Complex, complex_numbers, complex_difference, complex_over, real}
use Rattle.exact_algebra.proofs.Complexes.{complex_field, re-complex_whole, im-complex_whole}
use Rattle.exact_algebra.proofs.Holding.{holds_along}
use Rattle.exact_algebra.proofs.Ratios.{ratio_ring}
use Rattle.exact_algebra.proofs.Reader.{reads, ring, none_left}
use Rattle.linear_systems.specs.Assembly.{where_equal}
use Rattle.complex_interval.specs.Rectangles.{Rectangle, EnclosesComplex, sub_rectangles}
use Rattle.complex_interval.proofs.RectangleLaws.{add_encloses_rectangle, sub_encloses_rectangle, scale_encloses_rectangle}
use Rattle.network_theory.specs.Branch.{Tap}
use Rattle.network_theory.specs.State.{drop}
use Rattle.network_theory.specs.Nodal.{IsDistinct}
use Rattle.network_theory.proofs.Numbers.{R}
use Rattle.plain_elimination.specs.Matrix.{nought_rectangle}
use Rattle.middle_inverse.specs.Lists.{and_then, each, each_two}
use Rattle.middle_inverse.specs.Inverse.{one_rectangle}
use Rattle.certified_inverse.specs.Certificate.{IsOrderedRectangle, add_times, combination, unit_rectangles, row_left}
use Rattle.certified_inverse.proofs.Rows.{and_then-some, add_times-holds}
use Rattle.certified_inverse.proofs.Law.{low_held}
use Rattle.admittance_box.specs.Addends.{PlacedTap}
use Rattle.admittance_box.proofs.HeldEntries.{AtNodes, item_at}
use Rattle.admittance_box.proofs.Laws.{nought_held}
use Rattle.admittance_box.proofs.HeldPairs.{Held, HoldsTap, along, scaled-is, plus-none}
use Rattle.admittance_box.proofs.LivePairs.{zip_map}
use Rattle.admittance_box.proofs.Ranges.{zero_encloses, one_encloses}
use Rattle.admittance_box.proofs.Steps.{bind-some}
use Rattle.branchwise_laws.specs.Total.{total}
use Rattle.branchwise_laws.specs.Link.{Link, link_entry}
use Rattle.branchwise_laws.specs.Places.{place}
use Rattle.branchwise_laws.specs.Reach.{left_over}
use Rattle.branchwise_test.specs.Sizes.{drop_from, kept_size, left_row}
use Rattle.branchwise_test.proofs.Zips.{each_two_holds, zip_each, at_own_place}
open complex_numbers use {◌≈◌, nought, unit, ◌⊕◌, ◌⊗◌, minus}
open complex_field use {same, back, next}

-- the row holds a number of each node
abbrev pub HoldsRow : ℕ → List ℕ → (ℕ → Complex) → List Rectangle → Type 0
HoldsRow s ordering V row = AtNodes (λ n e. EnclosesComplex s e (V n)) ordering row

pub row_along : (s : ℕ) (ordering : List ℕ) (V W : ℕ → Complex) (row : List Rectangle) → ((n : ℕ) → V n ≈ W n) → HoldsRow s ordering V row → HoldsRow s ordering W row
row_along s ordering V W row h = zip_map (λ n e. EnclosesComplex s e (V n)) (λ n e. EnclosesComplex s e (W n)) (λ n e. along s e (V n) (W n) (h n)) ordering row

-- ---- drops
pub drop_from_holds : (s : ℕ) (ordering : List ℕ) (V : ℕ → Complex) (xs : List Rectangle) → HoldsRow s ordering V xs → (ps : List PlacedTap) (ts : List Tap) → AllZip (HoldsTap s ordering) ps ts
    → (sum a : Rectangle) (z : Complex) → drop_from s sum ps xs ≡ Some a → EnclosesComplex s sum z → EnclosesComplex s a (z ⊕ drop V ts)
drop_from_holds s ordering V xs hx [] [] h sum a z e hz = let is : sum ≡ a = cc in subst (λ r. EnclosesComplex s r (z ⊕ nought)) is (along s sum z (z ⊕ nought) (plus-none z nought (same _)) hz)
drop_from_holds s ordering V xs hx [] (t ∷ ts) h sum a z e hz = absurd h
drop_from_holds s ordering V xs hx (p ∷ ps) [] h sum a z e hz = absurd h
drop_from_holds s ordering V xs hx (p ∷ ps) (t ∷ ts) h sum a z e hz =
    let (more, e0, n3) = bind-some _ _ a e in
    let (x, e1, n1) = bind-some _ _ more e0 in
    let (term, e2, e3) = bind-some _ _ more n1 in
    let at = item_at (λ n e. EnclosesComplex s e (V n)) t.node ordering xs p.place x h.0.place e1 hx in
    let scaled = along s term _ (real t.ratio ⊗ V t.node) (scaled-is (V t.node) t.ratio) (scale_encloses_rectangle s x term p.ratio (V t.node) t.ratio at h.0.ratio e2) in
    let held = add_encloses_rectangle s sum term more z (real t.ratio ⊗ V t.node) hz scaled e3 in
    along s a _ _ (regroup z (real t.ratio ⊗ V t.node) (drop V ts)) (drop_from_holds s ordering V xs hx ps ts h.1 more a (z ⊕ real t.ratio ⊗ V t.node) n3 held)
  where
    regroup : (a b c : Complex) → (a ⊕ b) ⊕ c ≈ a ⊕ (b ⊕ c)
    regroup a b c = ring R (a ∷ b ∷ c ∷ []) (search reads depth 40 fits 4000) none_left

pub drop_over_holds : (s : ℕ) (ordering : List ℕ) (V : ℕ → Complex) (xs : List Rectangle) → HoldsRow s ordering V xs → (ps : List PlacedTap) (ts : List Tap) → AllZip (HoldsTap s ordering) ps ts
    → (a : Rectangle) → drop_from s nought_rectangle ps xs ≡ Some a → EnclosesComplex s a (drop V ts)
drop_over_holds s ordering V xs hx ps ts h a e = along s a _ _ (plain (drop V ts)) (drop_from_holds s ordering V xs hx ps ts h nought_rectangle a nought e (nought_held s))
  where
    plain : (a : Complex) → nought ⊕ a ≈ a
    plain a = ring R (a ∷ []) (search reads depth 40 fits 4000) none_left

-- ---- numbers of points
-- the number of the low ends of a row's entry at a node's place, and of a matrix's at those of two nodes
abbrev pub low_number : ℕ → Rectangle → Complex
low_number s a = complex_over a.re.low a.im.low (2 ^ s)

abbrev pub matrix_number : ℕ → List ℕ → List (List Rectangle) → ℕ → ℕ → Complex
matrix_number s ordering cs n n' = low_number s (get_or (get_or cs (place ordering n) []) (place ordering n') nought_rectangle)

pub matrix_held : (s : ℕ) (ordering : List ℕ) (cs : List (List Rectangle)) → IsDistinct ordering → length cs ≡ length ordering → AllByRecursion (λ row. length row ≡ length ordering) cs
    → AllByRecursion (λ row. AllByRecursion IsOrderedRectangle row) cs → Held s ordering (matrix_number s ordering cs) cs
matrix_held s ordering cs d l w o =
    zip_each (λ row. AllByRecursion IsOrderedRectangle row) (λ n row. (length row ≡ length ordering) × (row ≡ get_or cs (place ordering n) [])) (λ n row. HoldsRow s ordering (matrix_number s ordering cs n) row)
    (λ n row p q. whole n row p q.0 q.1) ordering cs o
    (zip_each (λ row. length row ≡ length ordering) (λ n row. row ≡ get_or cs (place ordering n) []) (λ n row. (length row ≡ length ordering) × (row ≡ get_or cs (place ordering n) [])) (λ n row p q. (p, q)) ordering cs w
    (at_own_place [] ordering cs d l))
  where
    whole : (n : ℕ) (row : List Rectangle) → AllByRecursion IsOrderedRectangle row → length row ≡ length ordering → row ≡ get_or cs (place ordering n) [] → HoldsRow s ordering (matrix_number s ordering cs n) row
    whole n row p k e =
        subst (λ r. HoldsRow s ordering (λ n'. low_number s (get_or r (place ordering n') nought_rectangle)) row) e
        (zip_each IsOrderedRectangle (λ n' a. a ≡ get_or row (place ordering n') nought_rectangle) (λ n' a. EnclosesComplex s a (low_number s (get_or row (place ordering n') nought_rectangle)))
        (λ n' a q g. subst (λ b. EnclosesComplex s a (low_number s b)) g (low_held s a q)) ordering row p (at_own_place nought_rectangle ordering row d k))

-- ---- the rows of (unit - C·P)
where_here : (n : ℕ) (x : Complex) → where_equal complex_numbers n n x ≡ x
where_here zero x = refl
where_here (suc n) x = where_here n x

where_apart : (m n : ℕ) (x : Complex) → m ≢ n → where_equal complex_numbers m n x ≡ nought
where_apart zero zero x h = absurd (h refl)
where_apart zero (suc n) x h = refl
where_apart (suc m) zero x h = refl
where_apart (suc m) (suc n) x h = where_apart m n x (λ e. h (ap suc e))

one_held : (s : ℕ) → EnclosesComplex s (one_rectangle s) unit
unfolding one_rectangle
one_held s = record {
  re = holds_along _ _ s _ _ (ratio_ring.back (re-complex_whole (pos 1))) (one_encloses s);
  im = holds_along _ _ s _ _ (ratio_ring.back (im-complex_whole (pos 1))) (zero_encloses s);
}

noughts_held : (s : ℕ) (ordering : List ℕ) (V : ℕ → Complex) → AllByRecursion (λ n. V n ≡ nought) ordering → HoldsRow s ordering V (replicate (length ordering) nought_rectangle)
noughts_held s [] V h = tt
noughts_held s (n ∷ ordering) V h = (subst (EnclosesComplex s nought_rectangle) (sym h.0) (nought_held s), noughts_held s ordering V h.1)

apart_all : (m : ℕ) (ordering : List ℕ) → AllByRecursion (λ n. m ≢ n) ordering → AllByRecursion (λ n. where_equal complex_numbers m n unit ≡ nought) ordering
apart_all m [] h = tt
apart_all m (n ∷ ordering) h = (where_apart m n unit h.0, apart_all m ordering h.1)

pub units_held : (s : ℕ) (ordering : List ℕ) → IsDistinct ordering → Held s ordering (λ n n'. where_equal complex_numbers n n' unit) (unit_rectangles s (length ordering))
units_held s [] d = tt
units_held s (m ∷ ordering) d = (
  (subst (EnclosesComplex s (one_rectangle s)) (sym (where_here m unit)) (one_held s), noughts_held s ordering (λ n'. where_equal complex_numbers m n' unit) (apart_all m ordering d.0)),
  later ordering (unit_rectangles s (length ordering)) d.0 (units_held s ordering d.1),
)
  where
    later : (nodes : List ℕ) (rows : List (List Rectangle)) → AllByRecursion (λ n. m ≢ n) nodes → AllZip (λ n row. HoldsRow s ordering (λ n'. where_equal complex_numbers n n' unit) row) nodes rows
        → AllZip (λ n row. HoldsRow s (m ∷ ordering) (λ n'. where_equal complex_numbers n n' unit) row) nodes (map (λ e. nought_rectangle ∷ e) rows)
    later [] [] a h = tt
    later [] (row ∷ rows) a h = absurd h
    later (n ∷ nodes) [] a h = absurd h
    later (n ∷ nodes) (row ∷ rows) a h = ((subst (EnclosesComplex s nought_rectangle) (sym (where_apart n m unit (λ e. a.0 (sym e)))) (nought_held s), h.0), later nodes rows a.1 h.1)

-- sums of rows, each times a number
combination_holds : (s : ℕ) (ordering : List ℕ) (c : ℕ → Complex) (M : ℕ → ℕ → Complex) (nodes : List ℕ) (cs : List Rectangle) (ys : List (List Rectangle))
    → AtNodes (λ m e. EnclosesComplex s e (c m)) nodes cs → AllZip (λ m row. HoldsRow s ordering (M m) row) nodes ys → (sums new : List Rectangle) (g : ℕ → Complex) → combination s sums cs ys ≡ Some new → HoldsRow s ordering g sums
    → HoldsRow s ordering (λ n'. g n' ⊕ total complex_numbers (λ m. c m ⊗ M m n') nodes) new
combination_holds s ordering c M [] [] [] hc hy sums new g e h = let is : sums ≡ new = cc in subst (HoldsRow s ordering (λ n'. g n' ⊕ nought)) is (row_along s ordering g (λ n'. g n' ⊕ nought) sums (λ n'. plus-none (g n') nought (same _)) h)
combination_holds s ordering c M [] [] (y ∷ ys) hc hy sums new g e h = absurd hy
combination_holds s ordering c M [] (d ∷ cs) ys hc hy sums new g e h = absurd hc
combination_holds s ordering c M (m ∷ nodes) [] ys hc hy sums new g e h = absurd hc
combination_holds s ordering c M (m ∷ nodes) (d ∷ cs) [] hc hy sums new g e h = absurd hy
combination_holds s ordering c M (m ∷ nodes) (d ∷ cs) (y ∷ ys) hc hy sums new g e h =
    let (more, e1, n1) = and_then-some _ _ _ e in
    let mid = each_two_holds (λ n' a. EnclosesComplex s a (g n')) (λ n' a. EnclosesComplex s a (M m n')) (λ n' a. EnclosesComplex s a (g n' ⊕ c m ⊗ M m n')) (add_times s d)
    (λ n' x a z p q f. add_times-holds s d x a z (c m) (g n') (M m n') f hc.0 p q) ordering sums y more h hy.0 e1 in
    row_along s ordering (λ n'. (g n' ⊕ c m ⊗ M m n') ⊕ total complex_numbers (λ m. c m ⊗ M m n') nodes) (λ n'. g n' ⊕ total complex_numbers (λ m. c m ⊗ M m n') (m ∷ nodes)) new
    (λ n'. regroup (g n') (c m ⊗ M m n') (total complex_numbers (λ m. c m ⊗ M m n') nodes))
    (combination_holds s ordering c M nodes cs ys hc.1 hy.1 more new (λ n'. g n' ⊕ c m ⊗ M m n') n1 mid)
  where
    regroup : (a b c : Complex) → (a ⊕ b) ⊕ c ≈ a ⊕ (b ⊕ c)
    regroup a b c = ring R (a ∷ b ∷ c ∷ []) (search reads depth 40 fits 4000) none_left

cleared_held : (s : ℕ) (P : ℕ → Rectangle → Type 0) (ordering : List ℕ) (e : List Rectangle) → AllZip P ordering e → HoldsRow s ordering (λ n. nought) (map (λ _. nought_rectangle) e)
cleared_held s P [] [] h = tt
cleared_held s P [] (a ∷ e) h = absurd h
cleared_held s P (n ∷ ordering) [] h = absurd h
cleared_held s P (n ∷ ordering) (a ∷ e) h = (nought_held s, cleared_held s P ordering e h.1)

module _ (s : ℕ) (ordering : List ℕ) (C : ℕ → ℕ → Complex) (links : List Link) (ps : List (List Rectangle)) (held : Held s ordering (link_entry (λ l. l.middle) links) ps) where
  pub row_left_holds : (n : ℕ) (e cs new : List Rectangle) → HoldsRow s ordering (λ n'. where_equal complex_numbers n n' unit) e → HoldsRow s ordering (C n) cs → row_left s ps e cs ≡ Some new → HoldsRow s ordering (left_over ordering C links n) new
  row_left_holds n e cs new he hc k =
      let (sums, k1, k2) = and_then-some _ _ _ k in
      let M = link_entry (λ l. l.middle) links in
      let hs = combination_holds s ordering (C n) M ordering cs ps hc held (map (λ _. nought_rectangle) e) sums (λ n'. nought) k1 (cleared_held s _ ordering e he) in
      each_two_holds (λ n' a. EnclosesComplex s a (where_equal complex_numbers n n' unit)) (λ n' a. EnclosesComplex s a (nought ⊕ total complex_numbers (λ m. C n m ⊗ M m n') ordering))
      (λ n' a. EnclosesComplex s a (left_over ordering C links n n')) sub_rectangles
      (λ n' a b r p q f. along s r _ _ (taken (where_equal complex_numbers n n' unit) (total complex_numbers (λ m. C n m ⊗ M m n') ordering)) (sub_encloses_rectangle s a b r _ _ p q f)) ordering e sums new he hs k2
    where
      taken : (a b : Complex) → complex_difference a (nought ⊕ b) ≈ a ⊕ minus b
      taken a b = ring R (a ∷ b ∷ []) (search reads depth 40 fits 4000) none_left

-- where the rows of (unit - C·P) have values, each row of C has an entry for each row of P
combination_width : (s : ℕ) (sums cs new : List Rectangle) (ys : List (List Rectangle)) → combination s sums cs ys ≡ Some new → length cs ≡ length ys
combination_width s sums [] new [] e = refl
combination_width s sums [] new (y ∷ ys) e = absurd cc
combination_width s sums (c ∷ cs) new [] e = absurd cc
combination_width s sums (c ∷ cs) new (y ∷ ys) e =
    let (more, e1, n1) = and_then-some (each_two (add_times s c) sums y) (λ more. combination s more cs ys) new e in
    ap suc (combination_width s more cs new ys n1)

pub left_widths : (s : ℕ) (es cs ps : List (List Rectangle)) (rows : List (List ℕ)) → each_two (left_row s ps) es cs ≡ Some rows → AllByRecursion (λ row. length row ≡ length ps) cs
left_widths s [] [] ps rows e = tt
left_widths s [] (c ∷ cs) ps rows e = absurd cc
left_widths s (u ∷ es) [] ps rows e = tt
left_widths s (u ∷ es) (c ∷ cs) ps rows e =
    let (d, e1, n1) = and_then-some (left_row s ps u c) (λ d. and_then (each_two (left_row s ps) es cs) (λ ds. Some (d ∷ ds))) rows e in
    let (ds, e2, n2) = and_then-some (each_two (left_row s ps) es cs) (λ ds. Some (d ∷ ds)) rows n1 in
    let (row, e3, n3) = bind-some (row_left s ps u c) (each kept_size) d e1 in
    let (sums, e4, n4) = and_then-some (combination s (map (λ _. nought_rectangle) u) c ps) (λ sums. each_two sub_rectangles u sums) row e3 in
    (combination_width s _ c sums ps e4, left_widths s es cs ps ds e2)
