-- A size and a scan of its network from scratch have the same boxes, where no sum is out of range.
use Rattle.std.proofs.Common.{◌≡◌, ◌≢◌, ◌∙◌, ℕ, zero, suc, ◌-◌, ◌≤◌, ◌<◌, ℤ, pos, ◌+ℤ◌, ◌*ℤ◌, ◌≤ℤ◌, Bool, true, List, [], ◌∷◌, ◌++◌, length, refl, sym, ap, ap₂, subst, arith}
use Rattle.std.specs.Prelude.{if◌then◌else◌, Option, Some, None, Result, Ok, Err, IfSome, IsSome, IfOk, slice_get, slice_set, int_lt, ◌||◌, ◌&&◌, ◌^◌, ◌*◌, ◌/◌}
use Rattle.std.specs.List.{AllByRecursion}
use Rattle.std.specs.Result.{result_ok}
use Rattle.std.proofs.lemmas.Int.{ints}
use Rattle.exact_algebra.specs.Ratio.{Ratio}
use Rattle.complex_interval.specs.Ends.{Ends, ends_in_range, range_ends, add_ends, mul_ends}
use Rattle.complex_interval.specs.Rectangles.{Rectangle, add_rectangles}
use Rattle.network_theory.specs.Branch.{Branch}
use Rattle.network_theory.specs.Extra.{shunt_at, with_shunt}
use Rattle.network_theory.specs.Network.{Network, IsWhole, IsUncoupled, IsGrouped, done, alone, group}
use Rattle.network_theory.specs.Reach.{is_live}
use Rattle.network_theory.proofs.Extra as E
use Rattle.network_theory.proofs.Phases.{live_is_node}
use Rattle.network_theory.proofs.Reach.{live_in_rounds}
use Rattle.element_parts.specs.PerUnit.{susceptance_of_rating}
use Rattle.plain_elimination.specs.Matrix.{entry, set_entry}
use Rattle.plain_elimination.specs.Elimination.{reduce_from}
use Rattle.plain_elimination.specs.Rectangles.{rectangles, reduce_rectangles}
use Rattle.plain_elimination.specs.declared.failure.Failure.{Failure}
use Rattle.certified_inverse.specs.declared.outcome.InverseOutcome.{InverseOutcome}
use Rattle.admittance_box.specs.Exact.{zero_ends}
use Rattle.admittance_box.specs.HeldMatrix.{CanAssemble}
use Rattle.admittance_box.specs.Orders.{order_ends}
use Rattle.admittance_box.specs.Places.{place_of}
use Rattle.admittance_box.specs.Steps.{◌>>=◌}
use Rattle.admittance_box.proofs.NodeOrderings.{is_last, lists_live}
use Rattle.admittance_box.proofs.Steps.{bind-some}
use Rattle.sparse_rows.proofs.Zeros.{ends_times_zero}
use Rattle.branchwise_test.specs.Enclosed.{Near, impedance_near_with}
use Rattle.branchwise_test.specs.declared.fault.BranchwiseFault.{BranchwiseFault}
use Rattle.branchwise_test.proofs.Branches.{places_are}
use Rattle.branchwise_test.proofs.Zips.{each_at}
use Rattle.study_model.specs.declared.words.Method.{Method}
use Rattle.study_model.specs.declared.words.Method.TheVariants.{Elimination, Both, Branchwise}
use Rattle.band_subdivision.specs.Boxes.{BoxTest}
use Rattle.band_subdivision.specs.BranchwisePart.{branchwise_part, is_within_near, ohms_over_near}
use Rattle.band_subdivision.specs.IntervalTest.{elimination_test, clear_bound, above_bound, is_clear_by, ohms_above_by}
use Rattle.band_subdivision.specs.InverseTest.{inverse_test, most_within, least_above, is_within_by, ohms_over_by}
use Rattle.band_subdivision.specs.Levels.{Levels}
use Rattle.band_subdivision.specs.PairTest.{with_extra, pair_rows, reduced_rows, pair_value, with_last, last_enclosure, pair_enclosure}
use Rattle.band_subdivision.specs.Parts.{either, or_else, is_near, nowhere, second_part}
use Rattle.band_subdivision.specs.Scan.{Scanning}
use Rattle.band_subdivision.specs.ScanSpec.{asked_of, widths_of, nothing}
use Rattle.study_scans.specs.Scan.{ordering_of, live_test}
use Rattle.study_scans.proofs.NodeOrderings.{order_is}
use Rattle.study_variants.specs.Kinds.{row_of_boxes}
use Rattle.study_variants.specs.Scratch.{scratch_test, scratch_boxes, scratch_row, StepsInRange, SumsInRange, NoSumIsOut}
use Rattle.study_variants.specs.Sizes.{Sizing, sizing_of, IsSizing, size_test, size_boxes, size_row, size_network}
use Rattle.study_variants.specs.declared.size_row.SizeRow.{SizeRow}
use Rattle.study_variants.proofs.Moved.{Alike, alike_ok, IsMoved, MovedRows, in_range, parts_are, same_ends, reduce_moved, rows_set}
use Rattle.study_variants.proofs.ShuntBranches.{same_near}
use Rattle.study_variants.proofs.ShuntRows.{imaginary, with_bank, shunt_rows, IsSquareOf, square_rows, length-set_entry}
use Rattle.study_variants.proofs.SizeRows.{susceptance_num, above_zero, row_of_size, IsAnswered}
use Rattle.study_variants.proofs.Walks.{Agree, same_boxes}

abbrev Rows : Type 0
Rows = List (List Rectangle)

-- ---- nothing more
plus_zero : (a : ℤ) → a +ℤ pos 0 ≡ a
plus_zero a = omega (arith, ints)

zero_times : (a : ℤ) → pos 0 *ℤ a ≡ pos 0
zero_times a = omega (arith, ints)

nought_over : (n : ℕ) → 0 * n / 1 ≡ 0
nought_over n = omega arith

zero_range : (s : ℕ) → range_ends s nothing nothing ≡ Some zero_ends
zero_range s = rw (zero_times (pos (2 ^ s)), nought_over (2 ^ s)) refl

-- ends in range stay so
again : (low high : ℤ) (r : Ends) → ends_in_range low high ≡ Some r → add_ends r zero_ends ≡ Some r
again low high r e =
    let is = in_range low high r e in
    ap₂ ends_in_range (plus_zero r.low ∙ is.0) (plus_zero r.high ∙ is.1) ∙ e

-- what is moved is a sum in range, to which nothing adds nothing
pub record IsSum (a m r : Ends) : Type 0 where
  pub sum : add_ends a m ≡ Some r
  pub stays : add_ends r zero_ends ≡ Some r

moved_sum : (a m r : Ends) → r.low ≡ a.low +ℤ m.low → r.high ≡ a.high +ℤ m.high → IsSome (add_ends a m) → IsSum a m r
moved_sum a m r low high some = go (add_ends a m) refl some
  where
    go : (o : Option Ends) → add_ends a m ≡ o → IsSome o → IsSum a m r
    go (Some t) e i =
        let is = in_range (a.low +ℤ m.low) (a.high +ℤ m.high) t e in
        let same : t ≡ r = same_ends t r (is.0 ∙ sym low) (is.1 ∙ sym high) in
        let sum : add_ends a m ≡ Some r = e ∙ ap (λ (x : Ends). Some x) same in
        record { sum = sum; stays = again (a.low +ℤ m.low) (a.high +ℤ m.high) r sum }
    go None e i = absurd cc

-- ---- entries
slice_set_get : (row : List Rectangle) (j : ℕ) (x y : Rectangle) → slice_get row j ≡ Some x → slice_get (slice_set row j y) j ≡ Some y
slice_set_get [] j x y e = absurd cc
slice_set_get (z ∷ row) zero x y e = refl
slice_set_get (z ∷ row) (suc j) x y e = slice_set_get row j x y e

entry_set : (rows : Rows) (i j : ℕ) (x y : Rectangle) → entry rows i j ≡ Some x → entry (set_entry rows i j y) i j ≡ Some y
entry_set [] i j x y e = absurd cc
entry_set (r ∷ rows) zero j x y e = slice_set_get r j x y e
entry_set (r ∷ rows) (suc i) j x y e = entry_set rows i j x y e

row_kept : (row : List Rectangle) (j : ℕ) (x : Rectangle) → slice_get row j ≡ Some x → slice_set row j x ≡ row
row_kept [] j x e = absurd cc
row_kept (z ∷ row) zero x e = let same : z ≡ x = cc in ap (λ (t : Rectangle). t ∷ row) (sym same)
row_kept (z ∷ row) (suc j) x e = ap (λ (t : List Rectangle). z ∷ t) (row_kept row j x e)

rows_kept : (rows : Rows) (i j : ℕ) (x : Rectangle) → entry rows i j ≡ Some x → set_entry rows i j x ≡ rows
rows_kept [] i j x e = absurd cc
rows_kept (r ∷ rows) zero j x e = ap (λ (t : List Rectangle). t ∷ rows) (row_kept r j x e)
rows_kept (r ∷ rows) (suc i) j x e = ap (λ (t : Rows). r ∷ t) (rows_kept rows i j x e)

if_ok : {X : Type 0} (P : X → Type 0) (r : Result X Failure) → IfOk r P → IfSome (result_ok r) P
if_ok P (Ok x) h = h
if_ok P (Err e) h = tt

none_then : {X Y : Type 0} (o : Option X) → ◌≡◌ {A = Option Y} (o >>= (λ x. None)) None
none_then None = refl
none_then (Some x) = refl

-- ---- one box
module _ (s lo hi : ℕ) (e : Ratio) where
  abbrev H : Ends
  H = order_ends s lo hi

  abbrev bank : Option Ends
  bank = range_ends s e e >>= mul_ends s H

  abbrev plus : Rectangle → Ends → Option Rectangle
  plus y m = add_ends y.im m >>= (λ im. Some (record { re = y.re; im = im }))

  by_bank : (b : Option Ends) (y : Rectangle) → with_extra s b lo hi y ≡ ((b >>= mul_ends s H) >>= plus y)
  by_bank None y = refl
  by_bank (Some b) y = refl

  with_none : (y : Rectangle) → with_extra s (range_ends s nothing nothing) lo hi y ≡ plus y zero_ends
  with_none y =
      by_bank (range_ends s nothing nothing) y ∙ ap (λ (b : Option Ends). (b >>= mul_ends s H) >>= plus y) (zero_range s) ∙ ap (λ (m : Option Ends). m >>= plus y) (ends_times_zero s H)

  with_some : (m : Ends) (y : Rectangle) → bank ≡ Some m → with_extra s (range_ends s e e) lo hi y ≡ plus y m
  with_some m y is = by_bank (range_ends s e e) y ∙ ap (λ (m : Option Ends). m >>= plus y) is

  -- H·b added to y gives w, and nothing added to w gives w
  pub record AddsTo (y w : Rectangle) : Type 0 where
    pub bank : with_extra s (range_ends s e e) lo hi y ≡ Some w
    pub none : with_extra s (range_ends s nothing nothing) lo hi w ≡ Some w

  adds : (m : Ends) (y w : Rectangle) → bank ≡ Some m → IsMoved m y w → IsSome (add_ends y.im m) → AddsTo y w
  adds m y w is moved some =
      let t = moved_sum y.im m w.im moved.low moved.high some in
      record {
        bank = with_some m y is ∙ ap (λ (im : Option Ends). im >>= (λ im. Some (record { re = y.re; im = im }))) t.sum ∙ ap (λ (re : Ends). Some (record { re = re; im = w.im })) (sym moved.re);
        none = with_none w ∙ ap (λ (im : Option Ends). im >>= (λ im. Some (record { re = w.re; im = im }))) t.stays;
      }

  -- the reduced values
  same_reduced : (m : Ends) (o p : Option Rectangle) → bank ≡ Some m → Alike (IsMoved m) o p → IfSome o (λ y. IsSome (add_ends y.im m))
      → (o >>= with_extra s (range_ends s e e) lo hi) ≡ (p >>= with_extra s (range_ends s nothing nothing) lo hi)
  same_reduced m None None is a some = refl
  same_reduced m (Some y) (Some w) is a some = let t = adds m y w is a some in t.bank ∙ sym t.none
  same_reduced m None (Some w) is a some = absurd a
  same_reduced m (Some y) None is a some = absurd a

  -- ---- the rows with the bank
  pub record HasBank (k : ℕ) (m : Ends) (rows more : Rows) : Type 0 where
    pub x : Rectangle
    pub sum : Rectangle
    pub at : entry rows k k ≡ Some x
    pub is : set_entry rows k k sum ≡ more
    pub moved : IsMoved m x sum
    pub in_range : IsSome (add_ends x.im m)

  has_bank : (k : ℕ) (m : Ends) (rows more : Rows) → with_bank k rows m ≡ Some more → HasBank k m rows more
  has_bank k m rows more made =
      let (x, at, n1) = bind-some (entry rows k k) (λ x. add_rectangles x (imaginary m) >>= (λ sum. Some (set_entry rows k k sum))) more made in
      let (sum, is_sum, n2) = bind-some (add_rectangles x (imaginary m)) (λ sum. Some (set_entry rows k k sum)) more n1 in
      let parts = parts_are (add_ends x.re zero_ends) (add_ends x.im m) sum is_sum in
      let re = in_range (x.re.low +ℤ pos 0) (x.re.high +ℤ pos 0) sum.re parts.re in
      let im = in_range (x.im.low +ℤ m.low) (x.im.high +ℤ m.high) sum.im parts.im in
      let is : set_entry rows k k sum ≡ more = cc in
      record {
        x = x;
        sum = sum;
        at = at;
        is = is;
        moved = record { re = same_ends sum.re x.re (re.0 ∙ plus_zero x.re.low) (re.1 ∙ plus_zero x.re.high); low = im.0; high = im.1 };
        in_range = rw parts.im refl;
      }

  -- with H·b at the last diagonal entry, and then with nothing there
  enclosed_rows : (k : ℕ) (m : Ends) (rows more : Rows) → bank ≡ Some m → length rows - 1 ≡ k → HasBank k m rows more
      → with_last s (range_ends s e e) lo hi rows ≡ with_last s (range_ends s nothing nothing) lo hi more
  enclosed_rows k m rows more is last has =
      let t = adds m has.x has.sum is has.moved has.in_range in
      let there : entry more k k ≡ Some has.sum = subst (λ r. entry r k k ≡ Some has.sum) has.is (entry_set rows k k has.x has.sum has.at) in
      let still : length more - 1 ≡ k = ap (λ n. n - 1) (sym (ap length has.is) ∙ length-set_entry rows k k has.sum) ∙ last in
      let kept : set_entry more k k has.sum ≡ more = rows_kept more k k has.sum there in
      set_at rows (range_ends s e e) has.x has.sum last has.at t.bank
      ∙ ap (λ (r : Rows). Some r) (has.is ∙ sym kept)
      ∙ sym (set_at more (range_ends s nothing nothing) has.sum has.sum still there t.none)
    where
      set_at : (rows : Rows) (b : Option Ends) (x sum : Rectangle) → length rows - 1 ≡ k → entry rows k k ≡ Some x → with_extra s b lo hi x ≡ Some sum → with_last s b lo hi rows ≡ Some (set_entry rows k k sum)
      set_at rows b x sum last at made =
          ap (λ (n : ℕ). entry rows n n >>= (λ y. with_extra s b lo hi y >>= (λ sum. Some (set_entry rows n n sum)))) last
          ∙ ap (λ (o : Option Rectangle). o >>= (λ y. with_extra s b lo hi y >>= (λ sum. Some (set_entry rows k k sum)))) at
          ∙ ap (λ (o : Option Rectangle). o >>= (λ sum. Some (set_entry rows k k sum))) made

  -- and the reduced values of both
  abbrev left : ℕ → Rows → Option Rectangle
  left n rows = result_ok (reduce_from (rectangles s) 1 n rows)

  along : (m : Ends) (rows more : Rows) (i j k : ℕ) → i ≡ k → j ≡ k → Alike (IsMoved m) (left k rows) (left k more) → Alike (IsMoved m) (left i rows) (left j more)
  along m rows more i j k p q a = subst (λ n. Alike (IsMoved m) (left n rows) (left j more)) (sym p) (subst (λ n. Alike (IsMoved m) (left k rows) (left n more)) (sym q) a)

  reduced_same : (k : ℕ) (m : Ends) (rows more : Rows) → bank ≡ Some m → IsSquareOf (suc k) rows → HasBank k m rows more → StepsInRange s (length rows - 1) rows → StepsInRange s (length more - 1) more
      → IfOk (reduce_rectangles s rows) (λ y. IsSome (add_ends y.im m)) → reduced_rows s (range_ends s e e) lo hi rows ≡ reduced_rows s (range_ends s nothing nothing) lo hi more
  reduced_same k m rows more is square has p q some =
      let last : length rows - 1 ≡ k = ap (λ n. n - 1) square.count ∙ omega arith in
      let still : length more - 1 ≡ k = ap (λ n. n - 1) (sym (ap length has.is) ∙ length-set_entry rows k k has.sum) ∙ last in
      let apart : MovedRows m k k rows more = subst (λ r. MovedRows m k k rows r) has.is (rows_set m k k rows has.x has.sum square.count square.each has.at has.moved) in
      let reduced = reduce_moved s m k 1 rows more apart (subst (λ n. StepsInRange s n rows) last p) (subst (λ n. StepsInRange s n more) still q) in
      same_reduced m (result_ok (reduce_rectangles s rows)) (result_ok (reduce_rectangles s more)) is
      (along m rows more (length rows - 1) (length more - 1) k last still (alike_ok (IsMoved m) _ _ reduced))
      (if_ok (λ y. IsSome (add_ends y.im m)) (reduce_rectangles s rows) some)

  -- ---- the two matrices of a box: that of the kept network, and that of the size's
  -- the same reduced values, and the same enclosures
  pub record SameBox (o p : Option Rows) : Type 0 where
    pub value : (o >>= reduced_rows s (range_ends s e e) lo hi) ≡ (p >>= reduced_rows s (range_ends s nothing nothing) lo hi)
    pub enclosed : last_enclosure s (o >>= with_last s (range_ends s e e) lo hi) ≡ last_enclosure s (p >>= with_last s (range_ends s nothing nothing) lo hi)

  -- what is asked of them: no sum is out of range
  pub record AreInRange (o p : Option Rows) : Type 0 where
    pub kept : IfSome o (λ rows. StepsInRange s (length rows - 1) rows)
    pub last : IfSome o (λ rows. IfOk (reduce_rectangles s rows) (λ y. IfSome bank (λ more. IsSome (add_ends y.im more))))
    pub matrix : IfSome o (λ rows. IfSome bank (λ more. IsSome p))
    pub scratch : IfSome p (λ rows. StepsInRange s (length rows - 1) rows)

  along_ok : {X : Type 0} (P Q : X → Type 0) (r : Result X Failure) → ((x : X) → P x → Q x) → IfOk r P → IfOk r Q
  along_ok P Q (Ok x) f h = f x h
  along_ok P Q (Err e) f h = tt

  at_bank : (m : Ends) (P : Ends → Type 0) → bank ≡ Some m → IfSome bank P → P m
  at_bank m P is h = subst (λ (o : Option Ends). IfSome o P) is h

  some_rows : (k : ℕ) (m : Ends) (rows : Rows) (p : Option Rows) → bank ≡ Some m → IsSquareOf (suc k) rows → AreInRange (Some rows) p → p ≡ with_bank k rows m → IsSome p → SameBox (Some rows) p
  some_rows k m rows (Some more) is square sums made some =
      let has = has_bank k m rows more (sym made) in
      let last : length rows - 1 ≡ k = ap (λ n. n - 1) square.count ∙ omega arith in
      record {
        value =
            reduced_same k m rows more is square has sums.kept sums.scratch
            (along_ok (λ y. IfSome bank (λ more. IsSome (add_ends y.im more))) (λ y. IsSome (add_ends y.im m)) (reduce_rectangles s rows) (λ y h. at_bank m (λ more. IsSome (add_ends y.im more)) is h) sums.last);
        enclosed = ap (last_enclosure s) (enclosed_rows k m rows more is last has);
      }
  some_rows k m rows None is square sums made some = absurd cc

  no_bank : (rows : Rows) → bank ≡ None → SameBox (Some rows) None
  no_bank rows is =
      let none : (y : Rectangle) → with_extra s (range_ends s e e) lo hi y ≡ None = λ y. by_bank (range_ends s e e) y ∙ ap (λ (m : Option Ends). m >>= plus y) is in
      record { value = value (result_ok (reduce_rectangles s rows)) none; enclosed = ap (last_enclosure s) (enclosed (entry rows (length rows - 1) (length rows - 1)) none) }
    where
      value : (o : Option Rectangle) → ((y : Rectangle) → with_extra s (range_ends s e e) lo hi y ≡ None) → (o >>= with_extra s (range_ends s e e) lo hi) ≡ None
      value None none = refl
      value (Some y) none = none y

      enclosed : (o : Option Rectangle) → ((y : Rectangle) → with_extra s (range_ends s e e) lo hi y ≡ None)
          → (o >>= (λ y. with_extra s (range_ends s e e) lo hi y >>= (λ sum. Some (set_entry rows (length rows - 1) (length rows - 1) sum)))) ≡ None
      enclosed None none = refl
      enclosed (Some y) none = ap (λ (x : Option Rectangle). x >>= (λ sum. Some (set_entry rows (length rows - 1) (length rows - 1) sum))) (none y)

  pub same_box : (k : ℕ) (o p : Option Rows) → IfSome o (IsSquareOf (suc k)) → AreInRange o p → p ≡ (o >>= (λ rows. bank >>= with_bank k rows)) → SameBox o p
  same_box k None p square sums is = subst (SameBox None) (sym is) (record { value = refl; enclosed = refl })
  same_box k (Some rows) p square sums is = go bank refl
    where
      go : (b : Option Ends) → bank ≡ b → SameBox (Some rows) p
      go (Some m) b = some_rows k m rows p b square sums (is ∙ ap (λ (o : Option Ends). o >>= with_bank k rows) b) (at_bank m (λ more. IsSome p) b sums.matrix)
      go None b = subst (SameBox (Some rows)) (sym (is ∙ ap (λ (o : Option Ends). o >>= with_bank k rows) b)) (no_bank rows b)

-- ---- tests of the same values
agree_either : (a b c d : BoxTest) (lo hi : ℕ) → Agree a b lo hi → Agree c d lo hi → Agree (either a c) (either b d) lo hi
agree_either a b c d lo hi x y = record { clear = ap₂ ◌||◌ x.clear y.clear; above = ap₂ or_else x.above y.above }

agree_second : (method : Method) (locate : ℕ) (a b c d : BoxTest) (lo hi : ℕ) → Agree a b lo hi → Agree c d lo hi → Agree (second_part method locate a c) (second_part method locate b d) lo hi
agree_second Elimination locate a b c d lo hi x y = record { clear = refl; above = refl }
agree_second Both locate a b c d lo hi x y = record {
  clear = ap (λ (t : Bool). is_near locate lo hi && t) x.clear;
  above = ap (λ (o : Option ℤ). if is_near locate lo hi then o else None) x.above;
}
agree_second Branchwise locate a b c d lo hi x y = y

module _ (s : ℕ) (levels : ℕ → ℕ → Levels) (lo hi : ℕ) where
  agree_elimination : (f g : ℕ → ℕ → Option Rectangle) → f lo hi ≡ g lo hi → Agree (elimination_test s levels f) (elimination_test s levels g) lo hi
  unfolding elimination_test
  agree_elimination f g e = record { clear = ap (is_clear_by (clear_bound s (levels lo hi))) e; above = ap (ohms_above_by s (levels lo hi) (above_bound s (levels lo hi))) e }

  agree_inverse : (f g : ℕ → ℕ → InverseOutcome) → f lo hi ≡ g lo hi → Agree (inverse_test s levels f) (inverse_test s levels g) lo hi
  unfolding inverse_test
  agree_inverse f g e = record { clear = ap (is_within_by (most_within s (levels lo hi))) e; above = ap (ohms_over_by s (levels lo hi) (least_above s (levels lo hi))) e }

  agree_branchwise : (f g : ℕ → ℕ → Result Near BranchwiseFault) → f lo hi ≡ g lo hi → Agree (branchwise_part s levels f) (branchwise_part s levels g) lo hi
  unfolding branchwise_part
  agree_branchwise f g e = record { clear = ap (is_within_near (most_within s (levels lo hi))) e; above = ap (ohms_over_near s (levels lo hi) (least_above s (levels lo hi))) e }

-- ---- the network with the bank
all_end : {X : Type 0} (P : X → Type 0) (xs : List X) (x : X) → AllByRecursion P xs → P x → AllByRecursion P (xs ++ x ∷ [])
all_end P [] x a p = (p, tt)
all_end P (y ∷ xs) x a p = (a.0, all_end P xs x a.1 p)

grouped_end : (bs : List Branch) (x : Branch) → IsUncoupled x → x.group ≡ 0 → IsGrouped bs → IsGrouped (bs ++ x ∷ [])
grouped_end _ x u z done = alone x [] u done
grouped_end _ x u z (alone b bs v more) = alone b (bs ++ x ∷ []) v (grouped_end bs x u z more)
grouped_end _ x u z (group a b c bs g apart more) =
    group a b c (bs ++ x ∷ []) g (all_end (λ o. o.group ≢ a.group) bs x apart (λ e. g.number (sym e ∙ z))) (grouped_end bs x u z more)

module _ (network : Network) (driven : ℕ) (o : List ℕ) (e : Ratio) (whole : IsWhole network) (ready : CanAssemble network network driven o) where
  abbrev more : Network
  more = with_shunt network driven e

  whole_still : IsWhole more
  whole_still = record {
    buses = whole.buses;
    taps = all_end (λ (b : Branch). AllByRecursion (λ t. t.node < network.nodes) b.taps) network.branches (shunt_at driven e) whole.taps (live_is_node network whole driven ready.driven_is_live, tt);
    groups = grouped_end network.branches (shunt_at driven e) refl refl whole.groups;
  }

  live_still : is_live more driven ≡ true
  live_still = (live_in_rounds more whole_still driven).1 (E.live_up network driven e driven ready.driven_is_live)

  order_still : o ≡ ordering_of more driven
  order_still = order_is more driven o whole_still (record {
    live = ready.ordered.live;
    right = λ n. (λ t. E.live_up network driven e n ((ready.ordered.right n).0 t), λ l. (ready.ordered.right n).1 (E.live_down network driven e ready.driven_is_live n l));
    same = ready.ordered.same;
  })

  -- the driven node is the last of its ordering
  pub record IsAtEnd (k : ℕ) : Type 0 where
    pub count : length o ≡ suc k
    pub place : place_of o driven ≡ Some k

  at_end : (k : ℕ) × IsAtEnd k
  at_end =
      let (n, last) = is_last network driven o ready.ordered in
      let listed = lists_live network driven o whole ready.driven_is_live ready.ordered in (
        n,
        record {
          count = last.count;
          place = subst (λ m. place_of o m ≡ Some n) last.last (each_at (λ i m. place_of o m ≡ Some i) 0 o n (let c = last.count in omega (arith, c)) (places_are o listed.distinct));
        },
      )

-- ---- a size
module _ (s : ℕ) (small : s ≤ 48) (c : Sizing) (q : ℤ) (whole : IsWhole c.network) (ready : CanAssemble c.network c.network c.driven c.ordering) (above : pos 1 ≤ℤ q) where
  abbrev b : Ratio
  b = susceptance_of_rating q c.spec.mva

  b_above : int_lt (pos 0) b.num ≡ true
  b_above = above_zero b.num (subst (λ z. pos 1 ≤ℤ z) (sym (susceptance_num q c.spec.mva)) above)

  abbrev network : Network
  network = size_network c q

  abbrev order : List ℕ
  order = ordering_of network c.driven

  same_order : c.ordering ≡ order
  same_order = order_still c.network c.driven c.ordering b whole ready

  boxes_alike : (lo hi : ℕ) → SumsInRange s c q lo hi → SameBox s lo hi b (pair_rows s c.network c.network c.ordering lo hi) (pair_rows s network network order lo hi)
  boxes_alike lo hi sums =
      let (k, end) = at_end c.network c.driven c.ordering b whole ready in
      same_box s lo hi b k (pair_rows s c.network c.network c.ordering lo hi) (pair_rows s network network order lo hi)
      (subst (λ n. IfSome (pair_rows s c.network c.network c.ordering lo hi) (IsSquareOf n)) end.count (square_rows s c.network c.ordering lo hi))
      (record { kept = sums.kept; last = sums.last; matrix = sums.matrix; scratch = sums.scratch })
      (ap (λ (o : List ℕ). pair_rows s network network o lo hi) (sym same_order) ∙ shunt_rows s c.network c.driven k c.ordering b lo hi small whole end.place)

  near_alike : (lo hi : ℕ) → impedance_near_with s c.network c.network c.ordering b lo hi ≡ impedance_near_with s network network order nothing lo hi
  near_alike lo hi =
      let (k, end) = at_end c.network c.driven c.ordering b whole ready in
      let count = end.count in
      let place : place_of c.ordering c.driven ≡ Some (length c.ordering - 1) = end.place ∙ ap (λ (n : ℕ). Some n) (omega (arith, count)) in
      same_near s c.network c.driven c.ordering b lo hi whole place b_above ∙ ap (λ (o : List ℕ). impedance_near_with s network network o nothing lo hi) same_order

  values_alike : (lo hi : ℕ) → SumsInRange s c q lo hi → pair_value s c.network c.network c.ordering b lo hi ≡ pair_value s network network order nothing lo hi
  unfolding pair_value
  values_alike lo hi sums = (boxes_alike lo hi sums).value

  enclosures_alike : (lo hi : ℕ) → SumsInRange s c q lo hi → pair_enclosure s c.network c.network c.ordering b lo hi ≡ pair_enclosure s network network order nothing lo hi
  unfolding pair_enclosure
  enclosures_alike lo hi sums = (boxes_alike lo hi sums).enclosed

  live_agrees : (lo hi : ℕ) → SumsInRange s c q lo hi → Agree (size_test s c q) (live_test s c.spec network network c.driven) lo hi
  live_agrees lo hi sums =
      agree_either (elimination_test s (asked_of c.spec).levels (pair_value s c.network c.network c.ordering b)) (elimination_test s (asked_of c.spec).levels (pair_value s network network order nothing)) _ _ lo hi
      (agree_elimination s (asked_of c.spec).levels lo hi (pair_value s c.network c.network c.ordering b) (pair_value s network network order nothing) (values_alike lo hi sums))
      (agree_second c.spec.method c.spec.locate _ _ _ _ lo hi
      (agree_inverse s (asked_of c.spec).levels lo hi (pair_enclosure s c.network c.network c.ordering b) (pair_enclosure s network network order nothing) (enclosures_alike lo hi sums))
      (agree_branchwise s (asked_of c.spec).levels lo hi (impedance_near_with s c.network c.network c.ordering b) (impedance_near_with s network network order nothing) (near_alike lo hi)))

  scratch_is : scratch_test s c q ≡ live_test s c.spec network network c.driven
  scratch_is = ap (λ (t : Bool). if t then live_test s c.spec network network c.driven else nowhere) (live_still c.network c.driven c.ordering b whole ready)

  pub boxes_from_scratch : NoSumIsOut s c q → size_boxes s c q ≡ scratch_boxes s c q
  boxes_from_scratch none =
      same_boxes (size_test s c q) (scratch_test s c q) (widths_of c.spec) c.spec.from c.spec.to
      (λ l h a d. subst (λ (t : BoxTest). Agree (size_test s c q) t l h) (sym scratch_is) (live_agrees l h (none l h a d)))

  pub row_from_scratch : NoSumIsOut s c q → size_row s c q ≡ scratch_row s c q
  unfolding size_row scratch_row
  row_from_scratch none = ap (row_of_boxes q) (boxes_from_scratch none)

-- ---- what an answer shows
pub scratch_answered : (s : ℕ) (scan : Scanning) (mva : ℤ) (sizes : List ℤ) (given : ℕ) (q : ℤ) (row : SizeRow) (c : Sizing) → s ≤ 48 → sizing_of scan sizes given ≡ c → IsSizing scan mva sizes given
    → IsAnswered s scan sizes given q row → NoSumIsOut s c row.size → row ≡ scratch_row s c row.size
scratch_answered s scan mva sizes given q row c small seen kept h none =
    let size : q ≡ row.size = sym (ap (λ (r : SizeRow). r.size) h.row_is) in
    let of_c : NoSumIsOut s c q → row ≡ scratch_row s c q = subst (λ (v : Sizing). NoSumIsOut s v q → row ≡ scratch_row s v q) seen (λ none.
    h.row_is ∙ row_of_size s (sizing_of scan sizes given) q ∙ row_from_scratch s small (sizing_of scan sizes given) q kept.whole kept.ready h.above none) in
    subst (λ (z : ℤ). NoSumIsOut s c z → row ≡ scratch_row s c z) size of_c none
