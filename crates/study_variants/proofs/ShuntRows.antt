-- The matrix of a network with one more shunt at the driven node.
use Rattle.std.proofs.Common.{◌≡◌, ◌∙◌, ℕ, zero, suc, ◌≤◌, ◌^◌, ℤ, pos, ◌*ℤ◌, ◌≤ℤ◌, ◌&&◌, unsigned_abs, Bool, true, false, List, [], ◌∷◌, ◌++◌, length, replicate, refl, sym, ap, subst, arith}
use Rattle.std.specs.Prelude.{if◌then◌else◌, Option, Some, None, IfSome, slice_get, slice_set}
use Rattle.std.specs.List.{AllByRecursion}
use Rattle.std.specs.Result.{result_ok}
use Rattle.std.proofs.lemmas.Bool.Decides.{nat_tests}
use Rattle.std.proofs.lemmas.Int.{ints}
use Rattle.exact_algebra.specs.Floor.{floor_div, ceil_div}
use Rattle.exact_algebra.specs.Ratio.{Ratio, whole}
use Rattle.complex_interval.specs.Ends.{Ends, AreEnds, is_end, ends_in_range, range_ends, mul_ends, least_of_four, greatest_of_four}
use Rattle.complex_interval.specs.Rectangles.{Rectangle, add_rectangles, scale_rectangle}
use Rattle.complex_interval.proofs.Held.{rounded_ordered, least_greatest}
use Rattle.complex_interval.proofs.TimesOne.{times_one}
use Rattle.network_theory.specs.Branch.{Law, Series, Shunt, Coupled3, Branch}
use Rattle.network_theory.specs.Extra.{shunt_at, with_shunt}
use Rattle.network_theory.specs.Network.{Network, IsWhole, IsGroup, IsGrouped, IsUncoupled, done, alone, group}
use Rattle.plain_elimination.specs.Matrix.{nought_rectangle, entry, set_entry}
use Rattle.admittance_box.specs.Addends.{OfShunt, TapPair, PairRow, PairRows, Addend, Joined, Dead, Absent, Grouped, place_in_group, addend_between, addends_between, group_between}
use Rattle.admittance_box.specs.BoxMatrix.{law_rectangle, grown, with_pairs, with_pair_row, with_pair_rows, with_addend, with_addends, or_branch, nought_rows, box_matrix}
use Rattle.admittance_box.specs.Coupling.{Columns, coupling_columns}
use Rattle.admittance_box.specs.Exact.{one_ends, zero_ends}
use Rattle.admittance_box.specs.Orders.{order_ends}
use Rattle.admittance_box.specs.Places.{place_of}
use Rattle.admittance_box.specs.Steps.{◌>>=◌}
use Rattle.admittance_box.proofs.Ranges.{one_ends-is, one_times_one}
use Rattle.band_subdivision.specs.PairTest.{pair_rows}

abbrev Rows : Type 0
Rows = List (List Rectangle)

-- ---- what the branches add
no_place : (law : Law) (g : ℕ) → elim law as (λ z. Type 0) [ Series r k m x xc ↦ g ≡ 0 | Shunt y ↦ g ≡ 0 | Coupled3 place c ↦ ⊥ ] → place_in_group law ≡ None
no_place (Series r k m x xc) g u = refl
no_place (Shunt y) g u = refl
no_place (Coupled3 place c) g u = absurd u

pub uncoupled_place : (b : Branch) → IsUncoupled b → place_in_group b.law ≡ None
uncoupled_place b u = no_place b.law b.group u

three_first : (s : ℕ) (o : List ℕ) (a b c : Branch) (xs : List Branch) → IsGroup a b c
    → addends_between s o (a ∷ b ∷ c ∷ xs) (a ∷ b ∷ c ∷ xs) ≡ group_between s o a b c a b c ∷ Dead ∷ Dead ∷ addends_between s o xs xs
three_first s o a b c xs three = rw (three.first.law, three.second.law, three.third.law) refl

-- one more branch after complete groups adds at the end
addends_append : (s : ℕ) (o : List ℕ) (bs : List Branch) (x : Branch) → IsGrouped bs → place_in_group x.law ≡ None
    → addends_between s o (bs ++ x ∷ []) (bs ++ x ∷ []) ≡ addends_between s o bs bs ++ addend_between s o x x ∷ []
addends_append s o _ x done p = rw p refl
addends_append s o _ x (alone b rest u g) p =
    let more = addends_append s o rest x g p in
    rw (no_place b.law b.group u) (ap (λ (l : List Addend). addend_between s o b b ∷ l) more)
addends_append s o _ x (group a b c rest three apart g) p =
    three_first s o a b c (rest ++ x ∷ []) three
    ∙ ap (λ (l : List Addend). group_between s o a b c a b c ∷ Dead ∷ Dead ∷ l) (addends_append s o rest x g p)
    ∙ sym (ap (λ (l : List Addend). l ++ addend_between s o x x ∷ []) (three_first s o a b c rest three))

-- ---- the rows
addends_then : (s : ℕ) (h : Ends) (i : ℕ) (addends : List Addend) (z : Addend) (rows : Rows)
    → result_ok (with_addends s h i (addends ++ z ∷ []) rows) ≡ (result_ok (with_addends s h i addends rows) >>= with_addend s h z)
addends_then s h i [] z rows = go (with_addend s h z rows)
  where
    go : (o : Option Rows) → result_ok (or_branch i o (with_addends s h (suc i) [])) ≡ o
    go (Some r) = refl
    go None = refl
addends_then s h i (a ∷ addends) z rows = go (with_addend s h a rows) (λ r. addends_then s h (suc i) addends z r)
  where
    go : (o : Option Rows) → ((r : Rows) → result_ok (with_addends s h (suc i) (addends ++ z ∷ []) r) ≡ (result_ok (with_addends s h (suc i) addends r) >>= with_addend s h z))
        → result_ok (or_branch i o (with_addends s h (suc i) (addends ++ z ∷ []))) ≡ (result_ok (or_branch i o (with_addends s h (suc i) addends)) >>= with_addend s h z)
    go (Some r) rest = rest r
    go None rest = refl

one_whole : (s : ℕ) → s ≤ 48 → range_ends s (whole (pos 1)) (whole (pos 1)) ≡ Some (one_ends s)
unfolding whole
one_whole s small = one_ends-is s small

-- the shunt's addend, at the place of its node
shunt_addend : (s : ℕ) (o : List ℕ) (driven k : ℕ) (e : Ratio) (b : Ends) → s ≤ 48 → place_of o driven ≡ Some k → range_ends s e e ≡ Some b
    → addend_between s o (shunt_at driven e) (shunt_at driven e) ≡ Joined (OfShunt b) (record { row = k; column = k; factor = one_ends s } ∷ [])
shunt_addend s o driven k e b small at is =
    let square = one_times_one s small in
    rw (at, is, one_whole s small, square) refl

no_addend : (s : ℕ) (o : List ℕ) (driven k : ℕ) (e : Ratio) → place_of o driven ≡ Some k → range_ends s e e ≡ None → addend_between s o (shunt_at driven e) (shunt_at driven e) ≡ Absent
no_addend s o driven k e at is = rw (at, is) refl

-- ---- what the shunt adds
fits : (z : ℤ) → is_end z ≡ true → unsigned_abs z ≤ 2 ^ 62
fits z e = grind (arith, nat_tests)

ends_are : (low high : ℤ) (r : Ends) → low ≤ℤ high → ends_in_range low high ≡ Some r → AreEnds r
ends_are low high r up e = go (is_end low) (is_end high) refl refl e
  where
    go : (t u : Bool) → is_end low ≡ t → is_end high ≡ u → (if t && u then Some (record { low = low; high = high }) else None) ≡ Some r → AreEnds r
    go true true p q h = let same : record { low = low; high = high } ≡ r = cc in subst AreEnds same (record { ordered = up; low_fits = fits low p; high_fits = fits high q })
    go true false p q h = absurd cc
    go false u p q h = absurd cc

product_ends : (s : ℕ) (a b r : Ends) → mul_ends s a b ≡ Some r → AreEnds r
product_ends s a b r e =
    let least = least_of_four (a.low *ℤ b.low) (a.low *ℤ b.high) (a.high *ℤ b.low) (a.high *ℤ b.high) in
    let greatest = greatest_of_four (a.low *ℤ b.low) (a.low *ℤ b.high) (a.high *ℤ b.low) (a.high *ℤ b.high) in
    ends_are (floor_div least (2 ^ s)) (ceil_div greatest (2 ^ s)) r
    (rounded_ordered least greatest s (least_greatest (a.low *ℤ b.low) (a.low *ℤ b.high) (a.high *ℤ b.low) (a.high *ℤ b.high))) e

nought_ends : AreEnds zero_ends
nought_ends = record { ordered = omega (arith, ints); low_fits = omega arith; high_fits = omega arith }

-- jm
abbrev pub imaginary : Ends → Rectangle
imaginary m = record { re = zero_ends; im = m }

-- the rows with jm added to the entry at place k of the diagonal
abbrev pub with_bank : ℕ → Rows → Ends → Option Rows
with_bank k rows m = entry rows k k >>= (λ x. add_rectangles x (imaginary m) >>= (λ sum. Some (set_entry rows k k sum)))

scaled_bank : (s : ℕ) (m : Ends) → AreEnds m → scale_rectangle s (imaginary m) (one_ends s) ≡ Some (imaginary m)
scaled_bank s m are = rw (times_one s zero_ends nought_ends, times_one s m are) refl

shunt_step : (s : ℕ) (h b : Ends) (k : ℕ) (rows : Rows) → with_addend s h (Joined (OfShunt b) (record { row = k; column = k; factor = one_ends s } ∷ [])) rows ≡ (mul_ends s h b >>= with_bank k rows)
shunt_step s h b k rows = go (mul_ends s h b) refl
  where
    pair : TapPair
    pair = record { row = k; column = k; factor = one_ends s }

    kept : (y : Rectangle) (o : Option Rows) → (o >>= with_pairs s y []) ≡ o
    kept y (Some r) = refl
    kept y None = refl

    go : (o : Option Ends) → mul_ends s h b ≡ o → ((o >>= (λ im. Some (imaginary im))) >>= (λ y. with_pairs s y (record { row = k; column = k; factor = one_ends s } ∷ []) rows)) ≡ (o >>= with_bank k rows)
    go None e = refl
    go (Some m) e =
        ap (λ (o : Option Rectangle). (o >>= (λ more. entry rows k k >>= (λ before. add_rectangles before more >>= (λ sum. Some (set_entry rows k k sum))))) >>= with_pairs s (imaginary m) []) (scaled_bank s m (product_ends s h b m e))
        ∙ kept (imaginary m) (with_bank k rows m)

shunt_adds : (s : ℕ) (h : Ends) (o : List ℕ) (driven k : ℕ) (e : Ratio) (rows : Rows) → s ≤ 48 → place_of o driven ≡ Some k
    → with_addend s h (addend_between s o (shunt_at driven e) (shunt_at driven e)) rows ≡ ((range_ends s e e >>= mul_ends s h) >>= with_bank k rows)
shunt_adds s h o driven k e rows small at = go (range_ends s e e) refl
  where
    go : (r : Option Ends) → range_ends s e e ≡ r → with_addend s h (addend_between s o (shunt_at driven e) (shunt_at driven e)) rows ≡ ((r >>= mul_ends s h) >>= with_bank k rows)
    go None is = ap (λ (a : Addend). with_addend s h a rows) (no_addend s o driven k e at is)
    go (Some b) is = ap (λ (a : Addend). with_addend s h a rows) (shunt_addend s o driven k e b small at is) ∙ shunt_step s h b k rows

-- ---- the matrix of a box
pub shunt_rows : (s : ℕ) (network : Network) (driven k : ℕ) (o : List ℕ) (e : Ratio) (lo hi : ℕ) → s ≤ 48 → IsWhole network → place_of o driven ≡ Some k
    → pair_rows s (with_shunt network driven e) (with_shunt network driven e) o lo hi ≡ (pair_rows s network network o lo hi >>= (λ rows. (range_ends s e e >>= mul_ends s (order_ends s lo hi)) >>= with_bank k rows))
unfolding box_matrix
shunt_rows s network driven k o e lo hi small whole at =
    let h = order_ends s lo hi in
    let x = shunt_at driven e in
    let bs = network.branches in
    let none : Rows = nought_rows (length o) in
    ap (λ (l : List Addend). result_ok (with_addends s h 0 l none)) (addends_append s o bs x whole.groups refl)
    ∙ addends_then s h 0 (addends_between s o bs bs) (addend_between s o x x) none
    ∙ go (result_ok (with_addends s h 0 (addends_between s o bs bs) none))
  where
    go : (r : Option Rows) → (r >>= with_addend s (order_ends s lo hi) (addend_between s o (shunt_at driven e) (shunt_at driven e))) ≡ (r >>= (λ rows. (range_ends s e e >>= mul_ends s (order_ends s lo hi)) >>= with_bank k rows))
    go None = refl
    go (Some rows) = shunt_adds s (order_ends s lo hi) o driven k e rows small at

-- ---- it is square
pub record IsSquareOf (n : ℕ) (rows : Rows) : Type 0 where
  pub count : length rows ≡ n
  pub each : AllByRecursion (λ row. length row ≡ n) rows

any_then : {A B : Type 0} (P : B → Type 0) (o : Option A) (f : A → Option B) → ((a : A) → IfSome (f a) P) → IfSome (o >>= f) P
any_then P None f h = tt
any_then P (Some a) f h = h a

kept_then : {A B : Type 0} (P : A → Type 0) (Q : B → Type 0) (o : Option A) (f : A → Option B) → IfSome o P → ((a : A) → P a → IfSome (f a) Q) → IfSome (o >>= f) Q
kept_then P Q None f k h = tt
kept_then P Q (Some a) f k h = h a k

length-slice_set : {X : Type 0} (row : List X) (j : ℕ) (x : X) → length (slice_set row j x) ≡ length row
length-slice_set [] j x = refl
length-slice_set (y ∷ row) zero x = refl
length-slice_set (y ∷ row) (suc j) x = ap suc (length-slice_set row j x)

pub length-set_entry : (rows : Rows) (i j : ℕ) (x : Rectangle) → length (set_entry rows i j x) ≡ length rows
length-set_entry [] i j x = refl
length-set_entry (r ∷ rows) zero j x = refl
length-set_entry (r ∷ rows) (suc i) j x = ap suc (length-set_entry rows i j x)

each_set : (n : ℕ) (rows : Rows) (i j : ℕ) (x : Rectangle) → AllByRecursion (λ row. length row ≡ n) rows → AllByRecursion (λ row. length row ≡ n) (set_entry rows i j x)
each_set n [] i j x h = tt
each_set n (r ∷ rows) zero j x h = (length-slice_set r j x ∙ h.0, h.1)
each_set n (r ∷ rows) (suc i) j x h = (h.0, each_set n rows i j x h.1)

set_square : (n : ℕ) (rows : Rows) (i j : ℕ) (x : Rectangle) → IsSquareOf n rows → IsSquareOf n (set_entry rows i j x)
set_square n rows i j x h = record { count = length-set_entry rows i j x ∙ h.count; each = each_set n rows i j x h.each }

module _ (n s : ℕ) where
  abbrev Kept : Option Rows → Type 0
  Kept o = IfSome o (IsSquareOf n)

  grown_square : (y : Rectangle) (pair : TapPair) (rows : Rows) → IsSquareOf n rows → Kept (grown s y pair rows)
  grown_square y pair rows h =
      any_then (IsSquareOf n) (scale_rectangle s y pair.factor) _ (λ more.
      any_then (IsSquareOf n) (entry rows pair.row pair.column) _ (λ before.
      any_then (IsSquareOf n) (add_rectangles before more) _ (λ sum. set_square n rows pair.row pair.column sum h)))

  pairs_square : (y : Rectangle) (pairs : List TapPair) (rows : Rows) → IsSquareOf n rows → Kept (with_pairs s y pairs rows)
  pairs_square y [] rows h = h
  pairs_square y (pair ∷ pairs) rows h = kept_then (IsSquareOf n) (IsSquareOf n) (grown s y pair rows) (with_pairs s y pairs) (grown_square y pair rows h) (λ more k. pairs_square y pairs more k)

  row_square : (columns : Columns) (place : ℕ) (row : PairRow) (rows : Rows) → IsSquareOf n rows → Kept (with_pair_row s columns place row rows)
  row_square columns place row rows h =
      any_then (IsSquareOf n) (slice_get columns.first place) _ (λ a.
      any_then (IsSquareOf n) (slice_get columns.second place) _ (λ b.
      any_then (IsSquareOf n) (slice_get columns.third place) _ (λ c.
      kept_then (IsSquareOf n) (IsSquareOf n) (with_pairs s a row.first rows >>= with_pairs s b row.second) (with_pairs s c row.third)
      (kept_then (IsSquareOf n) (IsSquareOf n) (with_pairs s a row.first rows) (with_pairs s b row.second) (pairs_square a row.first rows h) (λ more k. pairs_square b row.second more k))
      (λ more k. pairs_square c row.third more k))))

  rows_square : (columns : Columns) (pairs : PairRows) (rows : Rows) → IsSquareOf n rows → Kept (with_pair_rows s columns pairs rows)
  rows_square columns pairs rows h =
      kept_then (IsSquareOf n) (IsSquareOf n) (with_pair_row s columns 0 pairs.first rows >>= with_pair_row s columns 1 pairs.second) (with_pair_row s columns 2 pairs.third)
      (kept_then (IsSquareOf n) (IsSquareOf n) (with_pair_row s columns 0 pairs.first rows) (with_pair_row s columns 1 pairs.second) (row_square columns 0 pairs.first rows h) (λ more k. row_square columns 1 pairs.second more k))
      (λ more k. row_square columns 2 pairs.third more k)

  addend_square : (h : Ends) (a : Addend) (rows : Rows) → IsSquareOf n rows → Kept (with_addend s h a rows)
  addend_square h Dead rows k = k
  addend_square h Absent rows k = tt
  addend_square h (Joined law pairs) rows k = any_then (IsSquareOf n) (law_rectangle s h law) _ (λ y. pairs_square y pairs rows k)
  addend_square h (Grouped values pairs) rows k = any_then (IsSquareOf n) (coupling_columns s h values) _ (λ columns. rows_square columns pairs rows k)

  addends_square : (h : Ends) (i : ℕ) (addends : List Addend) (rows : Rows) → IsSquareOf n rows → Kept (result_ok (with_addends s h i addends rows))
  addends_square h i [] rows k = k
  addends_square h i (a ∷ addends) rows k = go (with_addend s h a rows) (addend_square h a rows k) (λ more m. addends_square h (suc i) addends more m)
    where
      go : (o : Option Rows) → Kept o → ((more : Rows) → IsSquareOf n more → Kept (result_ok (with_addends s h (suc i) addends more))) → Kept (result_ok (or_branch i o (with_addends s h (suc i) addends)))
      go None k further = tt
      go (Some more) k further = further more k

length-replicate' : {X : Type 0} (n : ℕ) (x : X) → length (replicate n x) ≡ n
length-replicate' zero x = refl
length-replicate' (suc n) x = ap suc (length-replicate' n x)

nought_each : (n m : ℕ) → AllByRecursion (λ row. length row ≡ n) (replicate m (replicate n nought_rectangle))
nought_each n zero = tt
nought_each n (suc m) = (length-replicate' n nought_rectangle, nought_each n m)

pub square_rows : (s : ℕ) (network : Network) (o : List ℕ) (lo hi : ℕ) → IfSome (pair_rows s network network o lo hi) (IsSquareOf (length o))
unfolding box_matrix
square_rows s network o lo hi =
    let n = length o in
    addends_square n s (order_ends s lo hi) 0 (addends_between s o network.branches network.branches) (nought_rows n) (record { count = length-replicate' n _; each = nought_each n n })
