-- Which boxes the bisection of a band would settle as undecided.
use Rattle.std.proofs.Common.{◌≡◌, ℕ, ◌-◌, ◌<◌, ◌≤◌, ℤ, Bool, true, false, not, nat_le, Option, Some, None, is_some, refl, ap, ◌∙◌, sym, subst, arith}
use Rattle.std.specs.Prelude.{if◌then◌else◌}
use Rattle.std.proofs.lemmas.Bool.Decides.{nat_tests}
use Rattle.band_subdivision.specs.Boxes.{BoxTest, Widths, above_at, middle, peak_or, peak_of, kind_of}
use Rattle.scan_report.specs.declared.boxes.Kind.{Kind}
use Rattle.scan_report.specs.declared.boxes.Kind.TheVariants.{Cleared, Peak, Undecided}
use Rattle.report_verify.specs.Checks.{settles_undecided}

le_is : (m n : ℕ) → m ≤ n → nat_le m n ≡ true
le_is m n h = grind (arith, nat_tests)

le_not : (m n : ℕ) → n < m → nat_le m n ≡ false
le_not m n h = grind (arith, nat_tests)

-- what becomes of a box, by its tests
abbrev settled_by : BoxTest → ℕ → ℕ → Bool → Bool → Bool → Option Kind
settled_by test lo hi clear near fine =
    if clear then Some Cleared else (if near then peak_of test lo hi (if fine then Some Undecided else None) else (if fine then Some Undecided else None))

kind_is : (test : BoxTest) (widths : Widths) (lo hi : ℕ) (clear near fine : Bool) → test.clear lo hi ≡ clear → nat_le (hi - lo) widths.locate ≡ near → nat_le (hi - lo) widths.finest ≡ fine
    → kind_of test widths lo hi ≡ settled_by test lo hi clear near fine
unfolding kind_of
kind_is test widths lo hi clear near fine c n f =
    ap (λ (x : Bool). settled_by test lo hi x (nat_le (hi - lo) widths.locate) (nat_le (hi - lo) widths.finest)) c
    ∙ ap (λ (x : Bool). settled_by test lo hi clear x (nat_le (hi - lo) widths.finest)) n
    ∙ ap (settled_by test lo hi clear near) f

-- a peak is named, or what comes after is taken
by_peaks : (a b c : Option ℤ) (m lo hi : ℕ) (other : Option Kind) → settles_undecided (peak_or m a (peak_or lo b (peak_or hi c other))) ≡ (if is_some (peak_or m a (peak_or lo b (peak_or hi c None))) then false else settles_undecided other)
by_peaks (Some x) b c m lo hi other = refl
by_peaks None (Some x) c m lo hi other = refl
by_peaks None None (Some x) m lo hi other = refl
by_peaks None None None m lo hi other = refl

peaks_settle : (test : BoxTest) (lo hi : ℕ) (other : Option Kind) → settles_undecided (peak_of test lo hi other) ≡ (if is_some (peak_of test lo hi None) then false else settles_undecided other)
peaks_settle test lo hi other = by_peaks (above_at test (middle lo hi)) (above_at test lo) (above_at test hi) (middle lo hi) lo hi other

otherwise_false : (b : Bool) → (if b then false else false) ≡ false
otherwise_false true = refl
otherwise_false false = refl

otherwise_not : (b : Bool) → (if b then false else true) ≡ not b
otherwise_not true = refl
otherwise_not false = refl

-- a cleared box isn't undecided
pub clear_settles : (test : BoxTest) (widths : Widths) (lo hi : ℕ) → test.clear lo hi ≡ true → settles_undecided (kind_of test widths lo hi) ≡ false
clear_settles test widths lo hi c = ap settles_undecided (kind_is test widths lo hi true _ _ c refl refl)

-- nor is one that is wider than the finest width
pub wide_settles : (test : BoxTest) (widths : Widths) (lo hi : ℕ) → widths.finest < hi - lo → settles_undecided (kind_of test widths lo hi) ≡ false
wide_settles test widths lo hi wide = by (test.clear lo hi) (nat_le (hi - lo) widths.locate) refl refl
  where
    by : (clear near : Bool) → test.clear lo hi ≡ clear → nat_le (hi - lo) widths.locate ≡ near → settles_undecided (kind_of test widths lo hi) ≡ false
    by true near c n = ap settles_undecided (kind_is test widths lo hi true near _ c n refl)
    by false false c n = ap settles_undecided (kind_is test widths lo hi false false false c n (le_not _ _ wide))
    by false true c n =
        ap settles_undecided (kind_is test widths lo hi false true false c n (le_not _ _ wide)) ∙ peaks_settle test lo hi None ∙ otherwise_false (is_some (peak_of test lo hi None))

-- another one is where no peak is named
pub narrow_settles : (test : BoxTest) (widths : Widths) (lo hi : ℕ) → hi - lo ≤ widths.finest → widths.finest ≤ widths.locate → test.clear lo hi ≡ false
    → settles_undecided (kind_of test widths lo hi) ≡ not (is_some (peak_of test lo hi None))
narrow_settles test widths lo hi narrow order c =
    ap settles_undecided (kind_is test widths lo hi false true true c (le_is _ _ (omega (arith, narrow, order))) (le_is _ _ narrow))
    ∙ peaks_settle test lo hi (Some Undecided) ∙ otherwise_not (is_some (peak_of test lo hi None))
