-- How deep a stack grows, and what a split leaves to come.
use Rattle.std.proofs.Common.{◌≡◌, ◌≢◌, ℕ, zero, suc, ◌+◌, ◌-◌, ◌*◌, ◌^◌, ◌<◌, ◌≤◌, Bool, true, false, cond, nat_le, List, [], ◌∷◌, ◌++◌, length, Option, Some, None, option_map, ℤ, refl, ap, ◌∙◌, sym, arith, append_assoc, subst, pow-suc}
use Rattle.band_subdivision.specs.Stack.{Band, split_top, below_top, top_of, IsStack}
use Rattle.band_subdivision.specs.Boxes.{IsTestable, BoxTest, above_at, Widths, middle, kind_of, peak_of, peak_or, settled, boxes_within, boxes_of}
use Rattle.band_subdivision.specs.Left.{boxes_left}
use Rattle.scan_report.specs.declared.boxes.BoxRow.{BoxRow}
use Rattle.scan_report.specs.declared.boxes.Kind.{Kind}
use Rattle.scan_report.specs.declared.boxes.Kind.TheVariants.{Cleared, Undecided}
use Rattle.std.proofs.lemmas.Bool.Decides.{nat_tests}

pub peak_or_none : (at : ℕ) (found : Option ℤ) (other : Option Kind) → peak_or at found other ≡ None → other ≡ None
peak_or_none at None other h = h
peak_or_none at (Some ohms) other h = cc

pub peak_of_none : (test : BoxTest) (lo hi : ℕ) (other : Option Kind) → peak_of test lo hi other ≡ None → other ≡ None
peak_of_none test lo hi other h =
    peak_or_none hi (above_at test hi) other (peak_or_none lo (above_at test lo) _ (peak_or_none (middle lo hi) (above_at test (middle lo hi)) _ h))

fine_false : (fine : Bool) → cond fine (Some Undecided) None ≡ None → fine ≡ false
fine_false true h = cc
fine_false false h = refl

choice_none : (clear near fine : Bool) (above : Option Kind → Option Kind) → ((o : Option Kind) → above o ≡ None → o ≡ None)
    → cond clear (Some Cleared) (cond near (above (cond fine (Some Undecided) None)) (cond fine (Some Undecided) None)) ≡ None → fine ≡ false
choice_none true near fine above keeps h = cc
choice_none false true fine above keeps h = fine_false fine (keeps _ h)
choice_none false false fine above keeps h = fine_false fine h

le_false : (m n : ℕ) → nat_le m n ≡ false → n < m
le_false m n h = grind (arith, nat_tests)

-- a box that is split is wider than the finest
pub kind_none : (test : BoxTest) (widths : Widths) (lo hi : ℕ) → kind_of test widths lo hi ≡ None → widths.finest < hi - lo
unfolding kind_of
kind_none test widths lo hi h =
    le_false (hi - lo) widths.finest
    (choice_none (test.clear lo hi) (nat_le (hi - lo) widths.locate) (nat_le (hi - lo) widths.finest) (λ o. peak_of test lo hi o) (λ o. peak_of_none test lo hi o) h)

-- equal halves make equal boxes
pub settled_same : (k : Option Kind) (lo hi : ℕ) (xs ys : List BoxRow) → (k ≡ None → xs ≡ ys) → settled k lo hi xs ≡ settled k lo hi ys
settled_same None lo hi xs ys h = h refl
settled_same (Some k) lo hi xs ys h = refl

-- any number of levels that is as great as the width gives the same boxes
pub boxes_enough : (n m : ℕ) (test : BoxTest) (widths : Widths) (lo hi : ℕ) → 1 ≤ widths.finest → lo < hi → hi ≤ lo + n → hi ≤ lo + m
    → boxes_within n test widths lo hi ≡ boxes_within m test widths lo hi
boxes_enough zero m test widths lo hi fine up enough enough' = absurd (omega arith)
boxes_enough (suc n) zero test widths lo hi fine up enough enough' = absurd (omega arith)
boxes_enough (suc n) (suc m) test widths lo hi fine up enough enough' =
    settled_same (kind_of test widths lo hi) lo hi _ _ (λ (split : kind_of test widths lo hi ≡ None).
    let wide : widths.finest < hi - lo = kind_none test widths lo hi split in
    let low : boxes_within n test widths lo (middle lo hi) ≡ boxes_within m test widths lo (middle lo hi)
    = boxes_enough n m test widths lo (middle lo hi) fine (omega arith) (omega arith) (omega arith) in
    let high : boxes_within n test widths (middle lo hi) hi ≡ boxes_within m test widths (middle lo hi) hi
    = boxes_enough n m test widths (middle lo hi) hi fine (omega arith) (omega arith) (omega arith) in
    rw (low, high) refl)

-- a band is one box, or the boxes of its halves
pub boxes_step : (test : BoxTest) (widths : Widths) (lo hi : ℕ) → 1 ≤ widths.finest → lo < hi
    → boxes_of test widths lo hi ≡ settled (kind_of test widths lo hi) lo hi (boxes_of test widths lo (middle lo hi) ++ boxes_of test widths (middle lo hi) hi)
unfolding boxes_of
boxes_step test widths lo hi fine up =
    boxes_enough (hi - lo) (suc (hi - lo)) test widths lo hi fine up (omega arith) (omega arith)
    ∙ settled_same (kind_of test widths lo hi) lo hi _ _ (λ (split : kind_of test widths lo hi ≡ None).
    let wide : widths.finest < hi - lo = kind_none test widths lo hi split in
    let low : boxes_within (hi - lo) test widths lo (middle lo hi) ≡ boxes_within (middle lo hi - lo) test widths lo (middle lo hi)
    = boxes_enough (hi - lo) (middle lo hi - lo) test widths lo (middle lo hi) fine (omega arith) (omega arith) (omega arith) in
    let high : boxes_within (hi - lo) test widths (middle lo hi) hi ≡ boxes_within (hi - middle lo hi) test widths (middle lo hi) hi
    = boxes_enough (hi - lo) (hi - middle lo hi) test widths (middle lo hi) hi fine (omega arith) (omega arith) (omega arith) in
    rw (low, high) refl)

-- what the top of a stack is
pub record HasTop (s : List Band) (lo hi : ℕ) : Type 0 where
  pub below : List Band
  pub is : s ≡ record { lo = lo; hi = hi } ∷ below

pub top_is : (s : List Band) (lo hi : ℕ) → ◌≡◌ {A = Option (ℕ × ℕ)} (Some (lo, hi)) (option_map (λ (b : Band). (b.lo, b.hi)) (top_of s)) → HasTop s lo hi
top_is [] lo hi e = absurd (cc)
top_is (b ∷ bs) lo hi e = record { below = bs; is = let same : ◌≡◌ {A = ℕ × ℕ} (lo, hi) (b.lo, b.hi) = cc in let l : lo ≡ b.lo = ap (λ (p : ℕ × ℕ). p.0) same in let h : hi ≡ b.hi = ap (λ (p : ℕ × ℕ). p.1) same in rw (l, h) refl }

-- a settled box is the first that is left
pub left_settled : (test : BoxTest) (widths : Widths) (s : List Band) (lo hi : ℕ) (kind : Kind) → 1 ≤ widths.finest → lo < hi
    → HasTop s lo hi → Some kind ≡ kind_of test widths lo hi → boxes_left test widths s ≡ record { lo = lo; hi = hi; kind = kind } ∷ boxes_left test widths (below_top s)
left_settled test widths s lo hi kind fine up top e =
    rw (top.is, boxes_step test widths lo hi fine up, ← e) refl

-- a split leaves the same boxes
pub left_split : (test : BoxTest) (widths : Widths) (s : List Band) (lo hi : ℕ) → 1 ≤ widths.finest → lo < hi
    → HasTop s lo hi → None ≡ kind_of test widths lo hi → boxes_left test widths (split_top s (middle lo hi)) ≡ boxes_left test widths s
left_split test widths s lo hi fine up top e =
    rw (top.is, boxes_step test widths lo hi fine up, ← e) (sym (append_assoc (boxes_of test widths lo (middle lo hi)) (boxes_of test widths (middle lo hi) hi) (boxes_left test widths top.below)))

halved : (n : ℕ) (finest : ℕ) → n < 16 → 2 ^ (16 - n) * finest ≡ 2 * (2 ^ (16 - suc n) * finest)
halved n finest h =
    let e : 16 - n ≡ suc (16 - suc n) = omega arith in
    rw (e, pow-suc) (omega arith)

full : (n finest lo hi : ℕ) → n ≡ 16 → hi ≤ lo + 2 ^ (16 - n) * finest → finest < hi - lo → ⊥
full n finest lo hi e h wide = let h' : hi ≤ lo + 2 ^ (16 - 16) * finest = subst (λ (m : ℕ). hi ≤ lo + 2 ^ (16 - m) * finest) e h in omega arith

split_levels : (from finest lo hi : ℕ) (bs : List Band) → IsStack from finest (record { lo = lo; hi = hi } ∷ bs) → finest < hi - lo
    → IsStack from finest (record { lo = lo; hi = middle lo hi } ∷ record { lo = middle lo hi; hi = hi } ∷ bs)
split_levels from finest lo hi bs stack wide =
    let bound : hi ≤ lo + 2 ^ (16 - length bs) * finest = stack.levels.1 in
    let at_most : length bs ≤ 16 = omega (arith, stack.fits) in
    let other : length bs ≢ 16 = λ (e : length bs ≡ 16). full (length bs) finest lo hi e bound wide in
    let few : length bs < 16 = omega arith in
    let half : 2 ^ (16 - length bs) * finest ≡ 2 * (2 ^ (16 - suc (length bs)) * finest) = halved (length bs) finest few in
    let fine : 1 ≤ finest = stack.split in
    let within : IsTestable from lo hi = stack.levels.2 in
    let lower : IsTestable from lo (middle lo hi) = record { above = within.above; begins = within.begins; ordered = omega arith } in
    let upper : IsTestable from (middle lo hi) hi = record { above = omega (arith, within.above); begins = omega (arith, within.begins); ordered = omega arith } in
    record {
      split = fine;
      fits = omega arith;
      levels = (omega arith, omega arith, lower, (omega arith, omega arith, upper, stack.levels.3));
    }

-- a split keeps the bounds
pub stack_split : (from finest : ℕ) (s : List Band) (lo hi : ℕ) → IsStack from finest s → HasTop s lo hi → finest < hi - lo → IsStack from finest (split_top s (middle lo hi))
stack_split from finest s lo hi stack top wide =
    rw top.is (split_levels from finest lo hi top.below (rw top.is at stack) wide)

-- so does a box that is taken away
pub stack_below : (from finest : ℕ) (s : List Band) (lo hi : ℕ) → IsStack from finest s → HasTop s lo hi → IsStack from finest (below_top s)
stack_below from finest s lo hi stack top =
    let whole : IsStack from finest (record { lo = lo; hi = hi } ∷ top.below) = rw top.is at stack in
    rw top.is (record { split = whole.split; fits = omega (arith, whole.fits); levels = whole.levels.3 })

-- the top band of a stack is above its beginning
pub top_above : (from finest : ℕ) (s : List Band) (lo hi : ℕ) → IsStack from finest s → HasTop s lo hi → lo < hi
top_above from finest s lo hi stack top =
    let whole : IsStack from finest (record { lo = lo; hi = hi } ∷ top.below) = rw top.is at stack in whole.levels.0

-- and may be tested
pub top_testable : (from finest : ℕ) (s : List Band) (lo hi : ℕ) → IsStack from finest s → HasTop s lo hi → IsTestable from lo hi
top_testable from finest s lo hi stack top =
    let whole : IsStack from finest (record { lo = lo; hi = hi } ∷ top.below) = rw top.is at stack in whole.levels.2
