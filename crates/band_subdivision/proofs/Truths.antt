-- What each box of a band says is true, by a sound test.
use Rattle.std.proofs.Common.{◌≡◌, ℕ, ◌-◌, ◌<◌, ◌≤◌, Bool, true, false, nat_le, Option, Some, None, ℤ, pos, negsuc, refl, subst, arith}
use Rattle.std.specs.Prelude.{if◌then◌else◌}
use Rattle.std.proofs.lemmas.Bool.Decides.{nat_tests}
use Rattle.band_subdivision.specs.Boxes.{BoxTest, above_at, IsTestable, Widths, middle, peak_or, peak_of, kind_of, boxes_of}
use Rattle.band_subdivision.specs.Split.{NamesNoPeak, ComesFrom, itself, lower, upper}
use Rattle.band_subdivision.specs.Truth.{Scanned, IsTruePeak, IsTrueKind, IsTrueRow, IsSound, BoxesAreTrue}
use Rattle.band_subdivision.proofs.Splits.{boxes_come, all_along}
use Rattle.scan_report.specs.declared.boxes.BoxRow.{BoxRow}
use Rattle.scan_report.specs.declared.boxes.Kind.{Kind}
use Rattle.scan_report.specs.declared.boxes.Kind.TheVariants.{Cleared, Peak, Undecided}

-- a peak at an order of a box is a peak in it
widened : (s : Scanned) (lo hi at : ℕ) (ohms : ℤ) → lo ≤ at → at ≤ hi → IsTruePeak s at at at ohms → IsTruePeak s lo hi at ohms
widened s lo hi at (pos m) low high h = record { is_order = h.is_order; inside = record { low = omega arith; high = omega arith }; there = h.there; ohms = h.ohms }
widened s lo hi at (negsuc m) low high h = h

-- where a peak is looked for at an order of the box, it is named there truly, or what comes after is
peak_or_true : (from : ℕ) (s : Scanned) (test : BoxTest) (widths : Widths) (lo hi at : ℕ) (other : Option Kind) (kind : Kind) → IsSound from s test → IsTestable from at at → lo ≤ at → at ≤ hi
    → peak_or at (above_at test at) other ≡ Some kind → (above_at test at ≡ None → other ≡ Some kind → IsTrueKind s test widths lo hi kind) → IsTrueKind s test widths lo hi kind
peak_or_true from s test widths lo hi at other kind sound testable low high e after = by (above_at test at) refl e
  where
    by : (found : Option ℤ) → above_at test at ≡ found → peak_or at found other ≡ Some kind → IsTrueKind s test widths lo hi kind
    by None is named = after is named
    by (Some ohms) is named =
        let same : Peak at ohms ≡ kind = cc in
        subst (λ k. IsTrueKind s test widths lo hi k) same (widened s lo hi at ohms low high (sound.above at ohms testable is))

-- a box of the widths' kinds
pub record Bounds (from lo hi : ℕ) : Type 0 where
  pub up : lo < hi
  pub testable : IsTestable from lo hi

at_middle : (lo hi : ℕ) → lo < hi → (lo ≤ middle lo hi) × (middle lo hi ≤ hi)
at_middle lo hi up = (omega arith, omega arith)

point : (from lo hi at : ℕ) → IsTestable from lo hi → lo ≤ at → at ≤ hi → IsTestable from at at
point from lo hi at h low high = record { above = omega (arith, h.above); begins = omega (arith, h.begins); ordered = omega arith }

peak_true : (from : ℕ) (s : Scanned) (test : BoxTest) (widths : Widths) (lo hi : ℕ) (other : Option Kind) (kind : Kind) → IsSound from s test → Bounds from lo hi
    → peak_of test lo hi other ≡ Some kind → (NamesNoPeak test lo hi → other ≡ Some kind → IsTrueKind s test widths lo hi kind) → IsTrueKind s test widths lo hi kind
peak_true from s test widths lo hi other kind sound bounds e after =
    let up = bounds.up in
    let testable = bounds.testable in
    let inner = at_middle lo hi up in
    peak_or_true from s test widths lo hi (middle lo hi) _ kind sound (point from lo hi (middle lo hi) testable inner.0 inner.1) inner.0 inner.1 e (λ at_mid e1.
    peak_or_true from s test widths lo hi lo _ kind sound (point from lo hi lo testable (omega arith) (omega arith)) (omega arith) (omega arith) e1 (λ at_lo e2.
    peak_or_true from s test widths lo hi hi other kind sound (point from lo hi hi testable (omega arith) (omega arith)) (omega arith) (omega arith) e2 (λ at_hi e3.
    after (record { at_middle = at_mid; at_low = at_lo; at_high = at_hi }) e3)))

le_true : (m n : ℕ) → nat_le m n ≡ true → m ≤ n
le_true m n h = grind (arith, nat_tests)

le_false : (m n : ℕ) → nat_le m n ≡ false → n < m
le_false m n h = grind (arith, nat_tests)

-- what is chosen of a box, by its tests
choice_true : (from : ℕ) (s : Scanned) (test : BoxTest) (widths : Widths) (lo hi : ℕ) (kind : Kind) → IsSound from s test → widths.finest ≤ widths.locate → Bounds from lo hi
    → (clear near fine : Bool) → test.clear lo hi ≡ clear → nat_le (hi - lo) widths.locate ≡ near → nat_le (hi - lo) widths.finest ≡ fine
    → (if clear then Some Cleared else (if near then peak_of test lo hi (if fine then Some Undecided else None) else (if fine then Some Undecided else None))) ≡ Some kind
    → IsTrueKind s test widths lo hi kind
choice_true from s test widths lo hi kind sound order bounds true near fine is_clear is_near is_fine e =
    let same : Cleared ≡ kind = cc in
    subst (λ k. IsTrueKind s test widths lo hi k) same (sound.clear lo hi bounds.testable is_clear)
choice_true from s test widths lo hi kind sound order bounds false true fine is_clear is_near is_fine e =
    peak_true from s test widths lo hi _ kind sound bounds e (λ none other. undecided fine is_fine none other)
  where
    undecided : (fine : Bool) → nat_le (hi - lo) widths.finest ≡ fine → NamesNoPeak test lo hi → (if fine then Some Undecided else None) ≡ Some kind → IsTrueKind s test widths lo hi kind
    undecided true is none other =
        let same : Undecided ≡ kind = cc in
        subst (λ k. IsTrueKind s test widths lo hi k) same (record { narrow = le_true _ _ is; unclear = is_clear; no_peak = none })
    undecided false is none other = absurd (cc)
choice_true from s test widths lo hi kind sound order bounds false false true is_clear is_near is_fine e =
    let far = le_false (hi - lo) widths.locate is_near in
    let close = le_true (hi - lo) widths.finest is_fine in
    absurd (omega arith)
choice_true from s test widths lo hi kind sound order bounds false false false is_clear is_near is_fine e = absurd (cc)

pub kind_true : (from : ℕ) (s : Scanned) (test : BoxTest) (widths : Widths) (lo hi : ℕ) (kind : Kind) → IsSound from s test → widths.finest ≤ widths.locate → Bounds from lo hi
    → kind_of test widths lo hi ≡ Some kind → IsTrueKind s test widths lo hi kind
unfolding kind_of
kind_true from s test widths lo hi kind sound order bounds e =
    choice_true from s test widths lo hi kind sound order bounds (test.clear lo hi) (nat_le (hi - lo) widths.locate) (nat_le (hi - lo) widths.finest) refl refl refl e

come_true : (from : ℕ) (s : Scanned) (test : BoxTest) (widths : Widths) (lo hi : ℕ) (row : BoxRow) → IsSound from s test → 1 ≤ widths.finest → widths.finest ≤ widths.locate → IsTestable from lo hi
    → ComesFrom test widths lo hi row → IsTrueRow s test widths row
come_true from s test widths _ _ _ sound fine order testable (itself lo hi kind up is) = kind_true from s test widths lo hi kind sound order (record { up = up; testable = testable }) is
come_true from s test widths _ _ _ sound fine order testable (lower lo hi row split rest) =
    let wide : widths.finest < hi - lo = split.wide in
    come_true from s test widths lo (middle lo hi) row sound fine order (record { above = testable.above; begins = testable.begins; ordered = omega arith }) rest
come_true from s test widths _ _ _ sound fine order testable (upper lo hi row split rest) =
    let wide : widths.finest < hi - lo = split.wide in
    come_true from s test widths (middle lo hi) hi row sound fine order (record { above = omega (arith, testable.above); begins = omega (arith, testable.begins); ordered = omega arith }) rest

pub boxes_are_true : BoxesAreTrue
boxes_are_true from s test widths lo hi sound fine order up testable =
    all_along (ComesFrom test widths lo hi) (IsTrueRow s test widths) (boxes_of test widths lo hi) (λ row. come_true from s test widths lo hi row sound fine order testable)
    (boxes_come test widths lo hi fine up)
