-- Two tests that agree wherever both walks ask give the same boxes.
use Rattle.std.proofs.Common.{◌≡◌, ◌∙◌, ℕ, zero, suc, ◌-◌, ℤ, Bool, true, false, cond, nat_le, ◌++◌, refl, sym, ap, arith}
use Rattle.std.specs.Prelude.{◌≤◌, Option, Some, None}
use Rattle.std.proofs.lemmas.Bool.Decides.{nat_tests}
use Rattle.band_subdivision.specs.Boxes.{BoxTest, above_at, Widths, middle, kind_of, peak_or, settled, boxes_within, boxes_of}
use Rattle.band_subdivision.proofs.Levels.{settled_same}
use Rattle.band_subdivision.proofs.Splits.{none_is_split}
use Rattle.scan_report.specs.declared.boxes.Kind.{Kind}
use Rattle.scan_report.specs.declared.boxes.Kind.TheVariants.{Cleared, Peak}
use Rattle.study_variants.specs.Scratch.{LooksForPeak, Asks, itself, at_middle, at_low, at_high, lower, upper}

-- of a box both say the same
pub record Agree (test other : BoxTest) (lo hi : ℕ) : Type 0 where
  pub clear : test.clear lo hi ≡ other.clear lo hi
  pub above : test.above lo hi ≡ other.above lo hi

le_true : (m n : ℕ) → nat_le m n ≡ true → m ≤ n
le_true m n h = grind (arith, nat_tests)

-- a peak at the same place
same_peak : (at : ℕ) (found there : Option ℤ) (rest more : Option Kind) → found ≡ there → (found ≡ None → there ≡ None → rest ≡ more) → peak_or at found rest ≡ peak_or at there more
same_peak at None None rest more e h = h refl refl
same_peak at (Some x) (Some y) rest more e h = let same : x ≡ y = cc in ap (λ (z : ℤ). Some (Peak at z)) same
same_peak at None (Some y) rest more e h = absurd cc
same_peak at (Some x) None rest more e h = absurd cc

-- what is chosen, by cases on whether the box is cleared and whether a peak is looked for
same_choice : (clear unclear near : Bool) (peak other rest : Option Kind) → clear ≡ unclear → (clear ≡ false → unclear ≡ false → near ≡ true → peak ≡ other)
    → cond clear (Some Cleared) (cond near peak rest) ≡ cond unclear (Some Cleared) (cond near other rest)
same_choice true true near peak other rest e h = refl
same_choice false false true peak other rest e h = h refl refl refl
same_choice false false false peak other rest e h = refl
same_choice true false near peak other rest e h = absurd cc
same_choice false true near peak other rest e h = absurd cc

module _ (test other : BoxTest) (widths : Widths) where
  -- they agree at each box of a band that both ask
  abbrev pub AgreeAt : ℕ → ℕ → Type 0
  AgreeAt lo hi = (l h : ℕ) → Asks test widths lo hi l h → Asks other widths lo hi l h → Agree test other l h

  same_kind : (lo hi : ℕ) → AgreeAt lo hi → kind_of test widths lo hi ≡ kind_of other widths lo hi
  unfolding kind_of
  same_kind lo hi agree =
      let here = agree lo hi (itself lo hi) (itself lo hi) in
      same_choice (test.clear lo hi) (other.clear lo hi) (nat_le (hi - lo) widths.locate) _ _ _ here.clear (λ c d near.
      let looks : LooksForPeak test widths lo hi = record { unclear = c; narrow = le_true (hi - lo) widths.locate near } in
      let looks' : LooksForPeak other widths lo hi = record { unclear = d; narrow = le_true (hi - lo) widths.locate near } in
      same_peak (middle lo hi) (above_at test (middle lo hi)) (above_at other (middle lo hi)) _ _ (agree _ _ (at_middle lo hi looks) (at_middle lo hi looks')).above (λ m m'.
      same_peak lo (above_at test lo) (above_at other lo) _ _ (agree _ _ (at_low lo hi looks m) (at_low lo hi looks' m')).above (λ l l'.
      same_peak hi (above_at test hi) (above_at other hi) _ _ (agree _ _ (at_high lo hi looks m l) (at_high lo hi looks' m' l')).above (λ h h'. refl))))

  same_within : (n lo hi : ℕ) → AgreeAt lo hi → boxes_within n test widths lo hi ≡ boxes_within n other widths lo hi
  same_within zero lo hi agree = refl
  same_within (suc n) lo hi agree =
      let kind = same_kind lo hi agree in
      settled_same (kind_of test widths lo hi) lo hi _ _ (λ (none : kind_of test widths lo hi ≡ None).
      let split = none_is_split test widths lo hi none in
      let split' = none_is_split other widths lo hi (sym kind ∙ none) in
      let low : boxes_within n test widths lo (middle lo hi) ≡ boxes_within n other widths lo (middle lo hi)
      = same_within n lo (middle lo hi) (λ l h a b. agree l h (lower lo hi l h split a) (lower lo hi l h split' b)) in
      let high : boxes_within n test widths (middle lo hi) hi ≡ boxes_within n other widths (middle lo hi) hi
      = same_within n (middle lo hi) hi (λ l h a b. agree l h (upper lo hi l h split a) (upper lo hi l h split' b)) in
      rw (low, high) refl)
      ∙ ap (λ (k : Option Kind). settled k lo hi (boxes_within n other widths lo (middle lo hi) ++ boxes_within n other widths (middle lo hi) hi)) kind

  pub same_boxes : (lo hi : ℕ) → AgreeAt lo hi → boxes_of test widths lo hi ≡ boxes_of other widths lo hi
  unfolding boxes_of
  same_boxes lo hi agree = same_within (hi - lo) lo hi agree
