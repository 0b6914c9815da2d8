-- Each box of a band comes out of it.
use Rattle.std.proofs.Common.{◌≡◌, ℕ, zero, suc, ◌-◌, ◌<◌, ◌≤◌, Bool, true, false, cond, nat_le, List, [], ◌∷◌, ◌++◌, Option, Some, None, ℤ, refl, arith}
use Rattle.std.specs.List.{AllByRecursion}
use Rattle.std.proofs.lemmas.Bool.Decides.{nat_tests}
use Rattle.band_subdivision.specs.Boxes.{BoxTest, above_at, Widths, middle, kind_of, peak_of, peak_or, settled, boxes_within, boxes_of}
use Rattle.band_subdivision.specs.Split.{NamesNoPeak, IsSplit, ComesFrom, itself, lower, upper}
use Rattle.band_subdivision.proofs.Levels.{kind_none, peak_or_none}
use Rattle.scan_report.specs.declared.boxes.BoxRow.{BoxRow}
use Rattle.scan_report.specs.declared.boxes.Kind.{Kind}
use Rattle.scan_report.specs.declared.boxes.Kind.TheVariants.{Cleared}

-- where no peak is named and nothing else comes, the test finds none
peak_or_absent : (at : ℕ) (found : Option ℤ) (other : Option Kind) → peak_or at found other ≡ None → found ≡ None
peak_or_absent at None other h = refl
peak_or_absent at (Some ohms) other h = cc

pub no_peak_named : (test : BoxTest) (lo hi : ℕ) (other : Option Kind) → peak_of test lo hi other ≡ None → NamesNoPeak test lo hi
no_peak_named test lo hi other h =
    let after_middle = peak_or_none (middle lo hi) (above_at test (middle lo hi)) _ h in
    let after_low = peak_or_none lo (above_at test lo) _ after_middle in
    record {
      at_middle = peak_or_absent (middle lo hi) (above_at test (middle lo hi)) _ h;
      at_low = peak_or_absent lo (above_at test lo) _ after_middle;
      at_high = peak_or_absent hi (above_at test hi) other after_low;
    }

-- what is chosen where a box isn't settled
unclear_choice : (clear : Bool) (rest : Option Kind) → cond clear (Some Cleared) rest ≡ None → clear ≡ false
unclear_choice true rest h = cc
unclear_choice false rest h = refl

near_choice : (clear near : Bool) (named rest : Option Kind) → cond clear (Some Cleared) (cond near named rest) ≡ None → near ≡ true → named ≡ None
near_choice true near named rest h e = cc
near_choice false true named rest h e = h
near_choice false false named rest h e = cc

at_most_true : (m n : ℕ) → m ≤ n → nat_le m n ≡ true
at_most_true m n h = grind (arith, nat_tests)

-- a box without a kind is split
pub none_is_split : (test : BoxTest) (widths : Widths) (lo hi : ℕ) → kind_of test widths lo hi ≡ None → IsSplit test widths lo hi
unfolding kind_of
none_is_split test widths lo hi h = record {
  wide = kind_none test widths lo hi h;
  unclear = unclear_choice (test.clear lo hi) _ h;
  no_peak = λ near. no_peak_named test lo hi _ (near_choice (test.clear lo hi) (nat_le (hi - lo) widths.locate) _ _ h (at_most_true (hi - lo) widths.locate near));
}

all_both : {A : Type 0} (P : A → Type 0) (xs ys : List A) → AllByRecursion P xs → AllByRecursion P ys → AllByRecursion P (xs ++ ys)
all_both P [] ys h k = k
all_both P (x ∷ xs) ys h k = (h.0, all_both P xs ys h.1 k)

pub all_along : {A : Type 0} (P Q : A → Type 0) (xs : List A) → ((x : A) → P x → Q x) → AllByRecursion P xs → AllByRecursion Q xs
all_along P Q [] f h = tt
all_along P Q (x ∷ xs) f h = (f x h.0, all_along P Q xs f h.1)

settled_come : (test : BoxTest) (widths : Widths) (k : Option Kind) (lo hi : ℕ) (halves : List BoxRow) → lo < hi → kind_of test widths lo hi ≡ k
    → (k ≡ None → AllByRecursion (ComesFrom test widths lo hi) halves) → AllByRecursion (ComesFrom test widths lo hi) (settled k lo hi halves)
settled_come test widths None lo hi halves up is more = more refl
settled_come test widths (Some kind) lo hi halves up is more = (itself lo hi kind up is, tt)

within_come : (n : ℕ) (test : BoxTest) (widths : Widths) (lo hi : ℕ) → 1 ≤ widths.finest → lo < hi → AllByRecursion (ComesFrom test widths lo hi) (boxes_within n test widths lo hi)
within_come zero test widths lo hi fine up = tt
within_come (suc n) test widths lo hi fine up =
    settled_come test widths (kind_of test widths lo hi) lo hi _ up refl (λ (none : kind_of test widths lo hi ≡ None).
    let split = none_is_split test widths lo hi none in
    let wide : widths.finest < hi - lo = split.wide in
    all_both (ComesFrom test widths lo hi) (boxes_within n test widths lo (middle lo hi)) (boxes_within n test widths (middle lo hi) hi)
    (all_along (ComesFrom test widths lo (middle lo hi)) (ComesFrom test widths lo hi) _ (λ row. lower lo hi row split) (within_come n test widths lo (middle lo hi) fine (omega arith)))
    (all_along (ComesFrom test widths (middle lo hi) hi) (ComesFrom test widths lo hi) _ (λ row. upper lo hi row split) (within_come n test widths (middle lo hi) hi fine (omega arith))))

pub boxes_come : (test : BoxTest) (widths : Widths) (lo hi : ℕ) → 1 ≤ widths.finest → lo < hi → AllByRecursion (ComesFrom test widths lo hi) (boxes_of test widths lo hi)
unfolding boxes_of
boxes_come test widths lo hi fine up = within_come (hi - lo) test widths lo hi fine up
