-- A stated inverse has as many rows as the matrix, and the ends of its rectangles are in order.
use Rattle.std.proofs.Common.{◌≡◌, ℕ, zero, suc, ◌+◌, Bool, true, false, List, [], ◌∷◌, ◌++◌, length, take, drop, map, slice_get, ◌==◌, Option, Some, None, Result, Ok, Err, refl, ap, ◌∙◌, subst, arith}
use Rattle.std.specs.Prelude.{if◌then◌else◌, option_map}
use Rattle.std.specs.List.{AllByRecursion}
use Rattle.std.proofs.lemmas.Int.{ints}
use Rattle.std.proofs.lemmas.List.{length-append, length-take, length-drop, length-map}
use Rattle.std.proofs.lemmas.List.Edits.{length-swap}
use Rattle.complex_interval.specs.Rectangles.{Rectangle, sub_rectangles, mul_rectangles, div_rectangles}
use Rattle.middle_inverse.specs.Lists.{and_then, each, each_two, first_greatest}
use Rattle.middle_inverse.specs.Inverse.{bind, in_range, low_point, size_of, size_at, point_quotient, point_less, pivot_first, divided_row, cleared_row, by_pivot, by_rows, column_step, columns_from, with_units, middle_inverse}
use Rattle.middle_inverse.specs.declared.fault.InverseFault.{InverseFault}
use Rattle.middle_inverse.specs.declared.fault.InverseFault.TheVariants.{NoInverse as NoPivot}
use Rattle.certified_inverse.specs.Certificate.{IsOrderedRectangle, AreRectangles}
use Rattle.certified_inverse.proofs.Rows.{and_then-some}

each-all : {X Y : Type 0} (Q : Y → Type 0) (f : X → Option Y) → ((x : X) (y : Y) → f x ≡ Some y → Q y) → (xs : List X) (ys : List Y) → each f xs ≡ Some ys → AllByRecursion Q ys × (length ys ≡ length xs)
each-all Q f h [] ys e = let k : [] ≡ ys = cc in subst (λ r. AllByRecursion Q r × (length r ≡ 0)) k (tt, refl)
each-all Q f h (x ∷ xs) ys e =
    let (d, ed, e) = and_then-some _ _ _ e in
    let (ds, eds, e) = and_then-some _ _ _ e in
    let k : d ∷ ds ≡ ys = cc in
    let r = each-all Q f h xs ds eds in
    subst (λ r. AllByRecursion Q r × (length r ≡ suc (length xs))) k ((h x d ed, r.0), ap suc r.1)

each_two-all : {X Y Z : Type 0} (Q : Z → Type 0) (f : X → Y → Option Z) → ((x : X) (y : Y) (z : Z) → f x y ≡ Some z → Q z) → (xs : List X) (ys : List Y) (zs : List Z) → each_two f xs ys ≡ Some zs → AllByRecursion Q zs
each_two-all Q f h [] [] zs e = let k : [] ≡ zs = cc in subst (AllByRecursion Q) k tt
each_two-all Q f h [] (y ∷ ys) zs e = absurd cc
each_two-all Q f h (x ∷ xs) [] zs e = absurd cc
each_two-all Q f h (x ∷ xs) (y ∷ ys) zs e =
    let (d, ed, e) = and_then-some _ _ _ e in
    let (ds, eds, e) = and_then-some _ _ _ e in
    let k : d ∷ ds ≡ zs = cc in
    subst (AllByRecursion Q) k (h x y d ed, each_two-all Q f h xs ys ds eds)

all-append : {X : Type 0} (Q : X → Type 0) (xs ys : List X) → AllByRecursion Q xs → AllByRecursion Q ys → AllByRecursion Q (xs ++ ys)
all-append Q [] ys h k = k
all-append Q (x ∷ xs) ys h k = (h.0, all-append Q xs ys h.1 k)

bind-ok : {X Y : Type 0} (o : Result X InverseFault) (f : X → Result Y InverseFault) (y : Y) → bind o f ≡ Ok y → (x : X) × (o ≡ Ok x) × (f x ≡ Ok y)
bind-ok (Err e) f y h = absurd cc
bind-ok (Ok x) f y h = (x, refl, h)

in_range-ok : {X : Type 0} (o : Option X) (x : X) → in_range o ≡ Ok x → o ≡ Some x
in_range-ok None x e = absurd cc
in_range-ok (Some y) x e = let k : y ≡ x = cc in ap Some k

if-ok : {X : Type 0} (t : Bool) (f : InverseFault) (o : Result X InverseFault) (x : X) → (if t then Err f else o) ≡ Ok x → o ≡ Ok x
if-ok true f o x e = absurd cc
if-ok false f o x e = e

some_is : {X : Type 0} (x y : X) → Some x ≡ Some y → x ≡ y
some_is x y e = cc

length-with_units : (s n i : ℕ) (rows : List (List Rectangle)) → length (with_units s n i rows) ≡ length rows
length-with_units s n i [] = refl
length-with_units s n i (row ∷ rows) = ap suc (length-with_units s n (suc i) rows)

all-drop : {X : Type 0} (Q : X → Type 0) (n : ℕ) (xs : List X) → AllByRecursion Q xs → AllByRecursion Q (drop n xs)
all-drop Q zero xs h = h
all-drop Q (suc n) [] h = h
all-drop Q (suc n) (x ∷ xs) h = all-drop Q n xs h.1

-- what each quotient and each difference of points has, each entry of a stated inverse has
module _ (Q : Rectangle → Type 0) (of_quotient : (s : ℕ) (a p b : Rectangle) → point_quotient s a p ≡ Some b → Q b) (of_less : (s : ℕ) (f a a0 b : Rectangle) → point_less s f a a0 ≡ Some b → Q b) where
  abbrev IsRow : List Rectangle → Type 0
  IsRow row = AllByRecursion Q row

  abbrev Shaped : ℕ → List (List Rectangle) → Type 0
  Shaped n rows = AllByRecursion IsRow rows × (length rows ≡ n)

  cleared_all : (s j : ℕ) (first row new : List Rectangle) → cleared_row s j first row ≡ Some new → IsRow new
  cleared_all s j first row new e = let (f, ef, k) = and_then-some (slice_get row j) (λ f. each_two (point_less s f) row first) new e in each_two-all Q (point_less s f) (λ x y z h. of_less s f x y z h) row first new k

  pivot_shape : (s j : ℕ) (above below new : List (List Rectangle)) (first : List Rectangle) (pivot : Rectangle) → by_pivot s j above first below pivot ≡ Ok new → Shaped (length above + suc (length below)) new
  pivot_shape s j above below new first pivot e =
      let rest : List Rectangle → Option (List (List Rectangle)) = λ q. and_then (each (cleared_row s j q) above) (λ a. and_then (each (cleared_row s j q) below) (λ b. Some (a ++ q ∷ b))) in
      let k0 = in_range-ok (and_then (divided_row s pivot first) rest) new (if-ok (size_of pivot == 0) (NoPivot (j + 1)) (in_range (and_then (divided_row s pivot first) rest)) new e) in
      let (q, eq, k1) = and_then-some (divided_row s pivot first) rest new k0 in
      let (a, ea, k2) = and_then-some (each (cleared_row s j q) above) (λ a. and_then (each (cleared_row s j q) below) (λ b. Some (a ++ q ∷ b))) new k1 in
      let (b, eb, k3) = and_then-some (each (cleared_row s j q) below) (λ b. Some (a ++ q ∷ b)) new k2 in
      let same : a ++ q ∷ b ≡ new = some_is (a ++ q ∷ b) new k3 in
      let hq = each-all Q (λ x. point_quotient s x pivot) (λ x y h. of_quotient s x pivot y h) first q eq in
      let ha = each-all IsRow (cleared_row s j q) (λ x y h. cleared_all s j q x y h) above a ea in
      let hb = each-all IsRow (cleared_row s j q) (λ x y h. cleared_all s j q x y h) below b eb in
      let l : length (a ++ q ∷ b) ≡ length above + suc (length below) = length-append a (q ∷ b) ∙ omega (arith, ha.1, hb.1) in
      subst (Shaped (length above + suc (length below))) same (all-append IsRow a (q ∷ b) ha.0 (hq.0, hb.0), l)

  rows_shape : (s j : ℕ) (above rest new : List (List Rectangle)) → by_rows s j above rest ≡ Ok new → Shaped (length above + length rest) new
  rows_shape s j above [] new e = absurd cc
  rows_shape s j above (first ∷ below) new e = let (pivot, ep, k) = bind-ok (in_range (slice_get first j)) (by_pivot s j above first below) new e in pivot_shape s j above below new first pivot k

  step_shape : (s j : ℕ) (rows new : List (List Rectangle)) → column_step s j rows ≡ Ok new → Shaped (length rows) new
  step_shape s j rows new e =
      let h = rows_shape s j (take j rows) (pivot_first j (drop j rows)) new e in
      let l = length-swap (drop j rows) 0 (first_greatest (map (size_at j) (drop j rows))) in
      (h.0, h.1 ∙ omega (arith, l, length-take j rows, length-drop j rows))

  columns_shape : (s j k n : ℕ) (rows new : List (List Rectangle)) → columns_from s j k rows ≡ Ok new → Shaped n rows → Shaped n new
  columns_shape s j zero n rows new e h = let k : rows ≡ new = cc in subst (Shaped n) k h
  columns_shape s j (suc k) n rows new e h =
      let (next, en, e) = bind-ok (column_step s j rows) (λ rows. columns_from s (suc j) k rows) new e in
      let r = step_shape s j rows next en in
      columns_shape s (suc j) k n next new e (r.0, r.1 ∙ h.1)

  start_shape : (s k n : ℕ) (rows new : List (List Rectangle)) → length rows ≡ n → n ≡ k → columns_from s 0 k rows ≡ Ok new → Shaped n new
  start_shape s zero n [] new l z e = let k : [] ≡ new = cc in subst (Shaped n) k (tt, l)
  start_shape s zero n (row ∷ rows) new l z e = absurd (omega arith)
  start_shape s (suc k) n rows new l z e =
      let (next, en, e) = bind-ok (column_step s 0 rows) (λ rows. columns_from s 1 k rows) new e in
      let r = step_shape s 0 rows next en in
      columns_shape s 1 k n next new e (r.0, r.1 ∙ l)

  all-dropped : (n : ℕ) (rows : List (List Rectangle)) → AllByRecursion IsRow rows → AllByRecursion IsRow (map (λ row. drop n row) rows)
  all-dropped n [] h = tt
  all-dropped n (row ∷ rows) h = (all-drop Q n row h.0, all-dropped n rows h.1)

  -- of a stated inverse
  pub inverse_all : (s : ℕ) (ys cs : List (List Rectangle)) → middle_inverse s ys ≡ Ok cs → AllByRecursion IsRow cs × (length cs ≡ length ys)
  inverse_all s ys cs e =
      let n = length ys in
      let (rows, er, e) = bind-ok (columns_from s 0 n (with_units s n 0 ys)) (λ rows. Ok (map (λ row. drop n row) rows)) cs e in
      let r = start_shape s n n (with_units s n 0 ys) rows (length-with_units s n 0 ys) refl er in
      let k : map (λ row. drop n row) rows ≡ cs = cc in
      subst (λ c. AllByRecursion IsRow c × (length c ≡ n)) k (all-dropped n rows r.0, length-map rows (λ row. drop n row) ∙ r.1)

-- ---- the ends are in order
low_ordered : (a : Rectangle) → IsOrderedRectangle (low_point a)
unfolding low_point
low_ordered a = record { re = omega (arith, ints); im = omega (arith, ints) }

kept_ordered : (o : Option Rectangle) (b : Rectangle) → option_map low_point o ≡ Some b → IsOrderedRectangle b
kept_ordered None b e = absurd cc
kept_ordered (Some a) b e = let k : low_point a ≡ b = cc in subst IsOrderedRectangle k (low_ordered a)

quotient_ordered : (s : ℕ) (a p b : Rectangle) → point_quotient s a p ≡ Some b → IsOrderedRectangle b
unfolding point_quotient
quotient_ordered s a p b e = kept_ordered (div_rectangles s a p) b e

less_ordered : (s : ℕ) (f a a0 b : Rectangle) → point_less s f a a0 ≡ Some b → IsOrderedRectangle b
unfolding point_less
less_ordered s f a a0 b e = let (t, et, k) = and_then-some (option_map low_point (mul_rectangles s f a0)) (λ t. option_map low_point (sub_rectangles a t)) b e in kept_ordered (sub_rectangles a t) b k

pub inverse_shape : (s : ℕ) (ys cs : List (List Rectangle)) → middle_inverse s ys ≡ Ok cs → AreRectangles (length ys) cs
inverse_shape s ys cs e = let r = inverse_all IsOrderedRectangle quotient_ordered less_ordered s ys cs e in record { count = r.1; ordered = r.0 }
