-- A matrix whose last diagonal entry is moved along the imaginary axis: where no sum is out of range, the reduction leaves what is moved by the same, or nothing in both.
use Rattle.std.proofs.Common.{◌≡◌, ℕ, zero, suc, ℤ, ◌+ℤ◌, ◌-ℤ◌, Bool, true, false, List, [], ◌∷◌, length, refl, sym, ap, subst, arith}
use Rattle.std.specs.List.{AllByRecursion}
use Rattle.std.specs.Prelude.{slice_get, slice_set, if◌then◌else◌, Option, Some, None, Result, Ok, Err, IfSome, IsSome, ◌&&◌}
use Rattle.std.specs.Result.{result_ok}
use Rattle.std.proofs.lemmas.Int.{ints}
use Rattle.complex_interval.specs.Ends.{Ends, is_end, ends_in_range, sub_ends}
use Rattle.complex_interval.specs.Rectangles.{Rectangle, both_parts, sub_rectangles, mul_rectangles, div_rectangles}
use Rattle.plain_elimination.specs.Elimination.{Enclosures, and_then, bind, or_fail, unless, sweep, later_row, later_rows, reduce_from}
use Rattle.plain_elimination.specs.Matrix.{entry, set_entry}
use Rattle.plain_elimination.specs.Rectangles.{rectangles}
use Rattle.plain_elimination.specs.declared.failure.Failure.{Failure}
use Rattle.plain_elimination.specs.declared.failure.Failure.TheVariants.{PivotHoldsZero, OutOfRange}
use Rattle.study_variants.specs.Scratch.{SweepInRange, LaterInRange, StepsInRange}

-- ---- two computations of which both have a value, or none has one
abbrev pub Alike : {X Y : Type 0} → (X → Y → Type 0) → Option X → Option Y → Type 0
Alike R None None = Unit {0}
Alike R None (Some y) = ⊥
Alike R (Some x) None = ⊥
Alike R (Some x) (Some y) = R x y

-- and two that may fail
abbrev pub AlikeOk : {X Y : Type 0} → (X → Y → Type 0) → Result X Failure → Result Y Failure → Type 0
AlikeOk R (Err e) (Err f) = Unit {0}
AlikeOk R (Err e) (Ok y) = ⊥
AlikeOk R (Ok x) (Err f) = ⊥
AlikeOk R (Ok x) (Ok y) = R x y

alike_then : {X Y Z W : Type 0} (R : X → Y → Type 0) (Q : Z → W → Type 0) (o : Option X) (p : Option Y) (f : X → Option Z) (g : Y → Option W)
    → Alike R o p → ((x : X) (y : Y) → R x y → Alike Q (f x) (g y)) → Alike Q (and_then o f) (and_then p g)
alike_then R Q None None f g a h = tt
alike_then R Q None (Some y) f g a h = absurd a
alike_then R Q (Some x) None f g a h = absurd a
alike_then R Q (Some x) (Some y) f g a h = h x y a

-- the same first step
alike_after : {X Z W : Type 0} (Q : Z → W → Type 0) (o : Option X) (f : X → Option Z) (g : X → Option W) → ((x : X) → o ≡ Some x → Alike Q (f x) (g x)) → Alike Q (and_then o f) (and_then o g)
alike_after Q None f g h = tt
alike_after Q (Some x) f g h = h x refl

alike_fails : {X Y Z W : Type 0} (R : X → Y → Type 0) (Q : Z → W → Type 0) (e : Failure) (o : Option X) (p : Option Y) (f : X → Result Z Failure) (g : Y → Result W Failure)
    → Alike R o p → ((x : X) (y : Y) → o ≡ Some x → p ≡ Some y → R x y → AlikeOk Q (f x) (g y)) → AlikeOk Q (bind (or_fail e o) f) (bind (or_fail e p) g)
alike_fails R Q e None None f g a h = tt
alike_fails R Q e None (Some y) f g a h = absurd a
alike_fails R Q e (Some x) None f g a h = absurd a
alike_fails R Q e (Some x) (Some y) f g a h = h x y refl refl a

pub alike_ok : {X Y : Type 0} (R : X → Y → Type 0) (r : Result X Failure) (t : Result Y Failure) → AlikeOk R r t → Alike R (result_ok r) (result_ok t)
alike_ok R (Err e) (Err f) a = tt
alike_ok R (Err e) (Ok y) a = absurd a
alike_ok R (Ok x) (Err f) a = absurd a
alike_ok R (Ok x) (Ok y) a = a

pub at_some : {X : Type 0} (P : X → Type 0) (o : Option X) (x : X) → o ≡ Some x → IfSome o P → P x
at_some P (Some y) x e h = let same : y ≡ x = cc in subst P same h
at_some P None x e h = absurd cc

-- ---- what is moved
-- y is x with these ends added to its imaginary part
pub record IsMoved (e : Ends) (x y : Rectangle) : Type 0 where
  pub re : y.re ≡ x.re
  pub low : y.im.low ≡ x.im.low +ℤ e.low
  pub high : y.im.high ≡ x.im.high +ℤ e.high

-- rows of n + 1 entries that differ in the last alone
abbrev pub MovedRow : Ends → ℕ → List Rectangle → List Rectangle → Type 0
MovedRow e zero (x ∷ []) (y ∷ []) = IsMoved e x y
MovedRow e (suc n) (x ∷ r) (y ∷ t) = (x ≡ y) × MovedRow e n r t
MovedRow e _ _ _ = ⊥

-- m rows before one of n + 1 entries, which alone differs, in its last entry
abbrev pub MovedRows : Ends → ℕ → ℕ → List (List Rectangle) → List (List Rectangle) → Type 0
MovedRows e zero n (r ∷ []) (t ∷ []) = MovedRow e n r t
MovedRows e (suc m) n (r ∷ rows) (t ∷ others) = (r ≡ t) × MovedRows e m n rows others
MovedRows e _ _ _ _ = ⊥

-- ---- one entry
pub in_range : (low high : ℤ) (r : Ends) → ends_in_range low high ≡ Some r → (r.low ≡ low) × (r.high ≡ high)
in_range low high r e = go (is_end low && is_end high) e
  where
    go : (t : Bool) → (if t then Some (record { low = low; high = high }) else None) ≡ Some r → (r.low ≡ low) × (r.high ≡ high)
    go true h = (cc, cc)
    go false h = absurd cc

-- both parts of a value
pub record AreParts (p q : Option Ends) (r : Rectangle) : Type 0 where
  pub re : p ≡ Some r.re
  pub im : q ≡ Some r.im

pub parts_are : (p q : Option Ends) (r : Rectangle) → both_parts p q ≡ Some r → AreParts p q r
parts_are (Some a) (Some b) r e = record { re = cc; im = cc }
parts_are (Some a) None r e = absurd cc
parts_are None q r e = absurd cc

pub same_ends : (a b : Ends) → a.low ≡ b.low → a.high ≡ b.high → a ≡ b
same_ends a b p q = go a.low b.low a.high b.high p q
  where
    go : (k l m n : ℤ) → k ≡ l → m ≡ n → ◌≡◌ {A = Ends} (record { low = k; high = m }) (record { low = l; high = n })
    go k l m n p q = cc

sub_moved : (e : Ends) (x y t u v : Rectangle) → IsMoved e x y → sub_rectangles x t ≡ Some u → sub_rectangles y t ≡ Some v → IsMoved e u v
sub_moved e x y t u v m p q =
    let a = parts_are (sub_ends x.re t.re) (sub_ends x.im t.im) u p in
    let b = parts_are (sub_ends y.re t.re) (sub_ends y.im t.im) v q in
    let xr = in_range (x.re.low -ℤ t.re.high) (x.re.high -ℤ t.re.low) u.re a.re in
    let xi = in_range (x.im.low -ℤ t.im.high) (x.im.high -ℤ t.im.low) u.im a.im in
    let yr = in_range (y.re.low -ℤ t.re.high) (y.re.high -ℤ t.re.low) v.re b.re in
    let yi = in_range (y.im.low -ℤ t.im.high) (y.im.high -ℤ t.im.low) v.im b.im in
    let low : y.re.low ≡ x.re.low = ap (λ (r : Ends). r.low) m.re in
    let high : y.re.high ≡ x.re.high = ap (λ (r : Ends). r.high) m.re in
    record {
      re = same_ends v.re u.re (omega (arith, ints, yr.0, xr.0, low)) (omega (arith, ints, yr.1, xr.1, high));
      low = omega (arith, ints, yi.0, xi.0, m.low);
      high = omega (arith, ints, yi.1, xi.1, m.high);
    }

-- differences in range
sub_alike : (e : Ends) (x y t : Rectangle) → IsMoved e x y → IsSome (sub_rectangles x t) → IsSome (sub_rectangles y t) → Alike (IsMoved e) (sub_rectangles x t) (sub_rectangles y t)
sub_alike e x y t m p q = go (sub_rectangles x t) (sub_rectangles y t) refl refl p q
  where
    go : (o r : Option Rectangle) → sub_rectangles x t ≡ o → sub_rectangles y t ≡ r → IsSome o → IsSome r → Alike (IsMoved e) o r
    go (Some u) (Some v) i j p q = sub_moved e x y t u v m i j
    go None r i j p q = absurd cc
    go (Some u) None i j p q = absurd cc

-- ---- rows
module _ (s : ℕ) (e : Ends) where
  abbrev B : Enclosures
  B = rectangles s

  last_swept : (f u v : Rectangle) (first : List Rectangle) → IsMoved e u v
      → Alike (MovedRow e 0) (and_then (sweep B f first []) (λ ds. Some (u ∷ ds))) (and_then (sweep B f first []) (λ ds. Some (v ∷ ds)))
  last_swept f u v [] m = m
  last_swept f u v (a ∷ first) m = tt

  sweep_moved : (n : ℕ) (f : Rectangle) (first row other : List Rectangle) → MovedRow e n row other → SweepInRange s f first row → SweepInRange s f first other
      → Alike (MovedRow e n) (sweep B f first row) (sweep B f first other)
  sweep_moved n f [] row other m p q = m
  sweep_moved zero f (a ∷ first) (x ∷ []) (y ∷ []) m p q =
      alike_after (MovedRow e 0) (mul_rectangles s f a) _ _ (λ t is.
      alike_then (IsMoved e) (MovedRow e 0) (sub_rectangles x t) (sub_rectangles y t) _ _
      (sub_alike e x y t m (at_some (λ t. IsSome (sub_rectangles x t)) (mul_rectangles s f a) t is p.0) (at_some (λ t. IsSome (sub_rectangles y t)) (mul_rectangles s f a) t is q.0))
      (λ u v moved. last_swept f u v first moved))
  sweep_moved (suc n) f (a ∷ first) (x ∷ r) (y ∷ t) m p q =
      subst
      (λ z. Alike (MovedRow e (suc n)) (sweep B f (a ∷ first) (x ∷ r)) (sweep B f (a ∷ first) (z ∷ t))) m.0
      (alike_after (MovedRow e (suc n)) (mul_rectangles s f a) _ _ (λ k is.
      alike_after (MovedRow e (suc n)) (sub_rectangles x k) _ _ (λ d is_d.
      alike_then (MovedRow e n) (MovedRow e (suc n)) (sweep B f first r) (sweep B f first t) _ _ (sweep_moved n f first r t m.1 p.1 q.1) (λ ds es moved. (refl, moved)))))
  sweep_moved zero f (a ∷ first) [] other m p q = absurd m
  sweep_moved zero f (a ∷ first) (x ∷ []) [] m p q = absurd m
  sweep_moved zero f (a ∷ first) (x ∷ []) (y ∷ z ∷ t) m p q = absurd m
  sweep_moved zero f (a ∷ first) (x ∷ z ∷ r) other m p q = absurd m
  sweep_moved (suc n) f (a ∷ first) [] other m p q = absurd m
  sweep_moved (suc n) f (a ∷ first) (x ∷ r) [] m p q = absurd m

  abbrev later : Bool → Rectangle → List Rectangle → Rectangle → List Rectangle → Option (List Rectangle)
  later zeroed pivot first a row = if zeroed then Some row else and_then (div_rectangles s a pivot) (λ f. sweep B f first row)

  abbrev Swept : Bool → Rectangle → List Rectangle → Rectangle → List Rectangle → Type 0
  Swept zeroed pivot first a row = zeroed ≡ false → IfSome (div_rectangles s a pivot) (λ f. SweepInRange s f first row)

  later_moved : (n : ℕ) (zeroed : Bool) (pivot : Rectangle) (first : List Rectangle) (a : Rectangle) (row other : List Rectangle) → MovedRow e n row other → Swept zeroed pivot first a row → Swept zeroed pivot first a other
      → Alike (MovedRow e n) (later zeroed pivot first a row) (later zeroed pivot first a other)
  later_moved n true pivot first a row other m p q = m
  later_moved n false pivot first a row other m p q =
      alike_after (MovedRow e n) (div_rectangles s a pivot) _ _ (λ f is.
      sweep_moved n f first row other m (at_some (λ f. SweepInRange s f first row) (div_rectangles s a pivot) f is (p refl)) (at_some (λ f. SweepInRange s f first other) (div_rectangles s a pivot) f is (q refl)))

  row_moved : (n : ℕ) (pivot : Rectangle) (first row other : List Rectangle) → MovedRow e (suc n) row other → LaterInRange s pivot first row → LaterInRange s pivot first other
      → Alike (MovedRow e n) (later_row B pivot first row) (later_row B pivot first other)
  row_moved n pivot first (x ∷ r) (y ∷ t) m p q =
      subst (λ z. Alike (MovedRow e n) (later_row B pivot first (x ∷ r)) (later_row B pivot first (z ∷ t))) m.0
      (later_moved n (B.is_zero x) pivot first x r t m.1 p (subst (λ z. LaterInRange s pivot first (z ∷ t)) (sym m.0) q))
  row_moved n pivot first [] other m p q = absurd m
  row_moved n pivot first (x ∷ r) [] m p q = absurd m

  rows_moved : (m n : ℕ) (pivot : Rectangle) (first : List Rectangle) (rows others : List (List Rectangle)) → MovedRows e m (suc n) rows others
      → AllByRecursion (LaterInRange s pivot first) rows → AllByRecursion (LaterInRange s pivot first) others → Alike (MovedRows e m n) (later_rows B pivot first rows) (later_rows B pivot first others)
  rows_moved zero n pivot first (r ∷ []) (t ∷ []) h p q =
      alike_then (MovedRow e n) (MovedRows e 0 n) (later_row B pivot first r) (later_row B pivot first t) _ _ (row_moved n pivot first r t h p.0 q.0) (λ d g moved. moved)
  rows_moved (suc m) n pivot first (r ∷ rows) (t ∷ others) h p q =
      subst (λ z. Alike (MovedRows e (suc m) n) (later_rows B pivot first (r ∷ rows)) (later_rows B pivot first (z ∷ others))) h.0
      (alike_after (MovedRows e (suc m) n) (later_row B pivot first r) _ _ (λ d is.
      alike_then (MovedRows e m n) (MovedRows e (suc m) n) (later_rows B pivot first rows) (later_rows B pivot first others) _ _ (rows_moved m n pivot first rows others h.1 p.1 q.1) (λ ds es moved. (refl, moved))))
  rows_moved zero n pivot first [] others h p q = absurd h
  rows_moved zero n pivot first (r ∷ []) [] h p q = absurd h
  rows_moved zero n pivot first (r ∷ []) (t ∷ u ∷ others) h p q = absurd h
  rows_moved zero n pivot first (r ∷ v ∷ rows) others h p q = absurd h
  rows_moved (suc m) n pivot first [] others h p q = absurd h
  rows_moved (suc m) n pivot first (r ∷ rows) [] h p q = absurd h

  -- ---- the reduction
  -- a step with this pivot, if it doesn't hold zero
  abbrev Steps : ℕ → Bool → Rectangle → List Rectangle → List (List Rectangle) → Type 0
  Steps n zeroed pivot first rows = zeroed ≡ false → AllByRecursion (LaterInRange s pivot first) rows × IfSome (later_rows B pivot first rows) (StepsInRange s n)

  abbrev reduced : ℕ → ℕ → Bool → Rectangle → List Rectangle → List (List Rectangle) → Result Rectangle Failure
  reduced n step zeroed pivot first rows =
      bind (bind (unless {X = Rectangle × List Rectangle} zeroed (PivotHoldsZero step) (pivot, first)) (λ split. or_fail (OutOfRange step) (later_rows B split.0 split.1 rows))) (λ smaller. reduce_from B (suc step) n smaller)

  abbrev Further : ℕ → ℕ → Type 0
  Further n step =
      (smaller less : List (List Rectangle)) → MovedRows e n n smaller less → StepsInRange s n smaller → StepsInRange s n less → AlikeOk (IsMoved e) (reduce_from B step n smaller) (reduce_from B step n less)

  pivot_moved : (n step : ℕ) (zeroed : Bool) (pivot : Rectangle) (first : List Rectangle) (rows others : List (List Rectangle)) → MovedRows e n (suc n) rows others
      → Steps n zeroed pivot first rows → Steps n zeroed pivot first others → Further n (suc step) → AlikeOk (IsMoved e) (reduced n step zeroed pivot first rows) (reduced n step zeroed pivot first others)
  pivot_moved n step true pivot first rows others h p q more = tt
  pivot_moved n step false pivot first rows others h p q more =
      alike_fails (MovedRows e n n) (IsMoved e) (OutOfRange step) (later_rows B pivot first rows) (later_rows B pivot first others) _ _ (rows_moved n n pivot first rows others h (p refl).0 (q refl).0)
      (λ smaller less i j moved. more smaller less moved (at_some (StepsInRange s n) (later_rows B pivot first rows) smaller i (p refl).1) (at_some (StepsInRange s n) (later_rows B pivot first others) less j (q refl).1))

  step_moved : (n step : ℕ) (r : List Rectangle) (rows others : List (List Rectangle)) → MovedRows e n (suc n) rows others → StepsInRange s (suc n) (r ∷ rows) → StepsInRange s (suc n) (r ∷ others) → Further n (suc step)
      → AlikeOk (IsMoved e) (reduce_from B step (suc n) (r ∷ rows)) (reduce_from B step (suc n) (r ∷ others))
  step_moved n step [] rows others h p q more = tt
  step_moved n step (pivot ∷ first) rows others h p q more = pivot_moved n step (B.holds_zero pivot) pivot first rows others h p q more

  pub reduce_moved : (n step : ℕ) (rows others : List (List Rectangle)) → MovedRows e n n rows others → StepsInRange s n rows → StepsInRange s n others
      → AlikeOk (IsMoved e) (reduce_from B step n rows) (reduce_from B step n others)
  reduce_moved zero step ((x ∷ []) ∷ []) ((y ∷ []) ∷ []) h p q = h
  reduce_moved (suc n) step (r ∷ rows) (t ∷ others) h p q =
      subst (λ z. AlikeOk (IsMoved e) (reduce_from B step (suc n) (r ∷ rows)) (reduce_from B step (suc n) (z ∷ others))) h.0
      (step_moved n step r rows others h.1 p (subst (λ z. StepsInRange s (suc n) (z ∷ others)) (sym h.0) q) (λ smaller less moved i j. reduce_moved n (suc step) smaller less moved i j))
  reduce_moved zero step [] others h p q = absurd h
  reduce_moved zero step ([] ∷ []) [] h p q = absurd h
  reduce_moved zero step ([] ∷ []) (t ∷ []) h p q = absurd h
  reduce_moved zero step ([] ∷ []) (t ∷ u ∷ others) h p q = absurd h
  reduce_moved zero step ((x ∷ z ∷ r) ∷ []) [] h p q = absurd h
  reduce_moved zero step ((x ∷ z ∷ r) ∷ []) (t ∷ []) h p q = absurd h
  reduce_moved zero step ((x ∷ z ∷ r) ∷ []) (t ∷ u ∷ others) h p q = absurd h
  reduce_moved zero step ((x ∷ []) ∷ []) [] h p q = absurd h
  reduce_moved zero step ((x ∷ []) ∷ []) ([] ∷ []) h p q = absurd h
  reduce_moved zero step ((x ∷ []) ∷ []) ((y ∷ z ∷ t) ∷ []) h p q = absurd h
  reduce_moved zero step ((x ∷ []) ∷ []) (t ∷ u ∷ others) h p q = absurd h
  reduce_moved zero step (r ∷ u ∷ rows) others h p q = absurd h
  reduce_moved (suc n) step [] others h p q = absurd h
  reduce_moved (suc n) step (r ∷ rows) [] h p q = absurd h

-- ---- rows whose last entry is set
row_set : (e : Ends) (n : ℕ) (row : List Rectangle) (x y : Rectangle) → length row ≡ suc n → slice_get row n ≡ Some x → IsMoved e x y → MovedRow e n row (slice_set row n y)
row_set e zero (z ∷ []) x y w is m = let same : x ≡ z = cc in subst (λ r. IsMoved e r y) same m
row_set e (suc n) (z ∷ row) x y w is m = (refl, row_set e n row x y (omega (arith, w)) is m)
row_set e zero [] x y w is m = absurd (omega (arith, w))
row_set e zero (z ∷ u ∷ row) x y w is m = absurd (omega (arith, w))
row_set e (suc n) [] x y w is m = absurd (omega (arith, w))

pub rows_set : (e : Ends) (k n : ℕ) (rows : List (List Rectangle)) (x y : Rectangle) → length rows ≡ suc k → AllByRecursion (λ row. length row ≡ suc n) rows → entry rows k n ≡ Some x → IsMoved e x y
    → MovedRows e k n rows (set_entry rows k n y)
rows_set e zero n (row ∷ []) x y w all is m = row_set e n row x y all.0 is m
rows_set e (suc k) n (row ∷ rows) x y w all is m = (refl, rows_set e k n rows x y (omega (arith, w)) all.1 is m)
rows_set e zero n [] x y w all is m = absurd (omega (arith, w))
rows_set e zero n (row ∷ other ∷ rows) x y w all is m = absurd (omega (arith, w))
rows_set e (suc k) n [] x y w all is m = absurd (omega (arith, w))
