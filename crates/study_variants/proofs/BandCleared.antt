-- A band of which each box is cleared is cleared whole.
use Rattle.std.proofs.Common.{◌≡◌, ℕ, ◌*◌, ◌^◌, inl, inr, Bool, true, false, cond, List, [], ◌∷◌, map, refl, subst, ap, arith}
use Rattle.std.specs.List.{AllByRecursion}
use Rattle.std.specs.Prelude.{count_by}
use Rattle.std.proofs.lemmas.Bool.{cases_lt}
use Rattle.network_theory.specs.Box.{Covers}
use Rattle.band_subdivision.specs.Boxes.{BoxTest, Widths}
use Rattle.band_subdivision.specs.Cover.{span_of}
use Rattle.band_subdivision.specs.Truth.{Scanned, IsClearedBox, IsTrueKind, IsTrueRow}
use Rattle.scan_report.specs.declared.boxes.BoxRow.{BoxRow}
use Rattle.scan_report.specs.declared.boxes.Kind.{Kind}
use Rattle.scan_report.specs.declared.boxes.Kind.TheVariants.{Cleared, Peak, Undecided}
use Rattle.study_scans.specs.Regions.{is_peak, is_undecided, count_of}
use Rattle.study_variants.proofs.CountedBoxes.{count_first}

-- two boxes side by side
side_by_side : (s : Scanned) (lo mid hi : ℕ) → IsClearedBox s lo mid → IsClearedBox s mid hi → IsClearedBox s lo hi
side_by_side s lo mid hi low high h is inside = elim (cases_lt (mid * h.d) (10 ^ 6 * h.n)) [
  | inl after ↦ high h is (record { low = omega (arith, after); high = inside.high })
  | inr before ↦ low h is (record { low = inside.low; high = before })
]

-- each box of a cover
pub cover_cleared : (s : Scanned) (boxes : List BoxRow) (from to : ℕ) → Covers from to (map span_of boxes) → AllByRecursion (λ b. IsClearedBox s b.lo b.hi) boxes → IsClearedBox s from to
cover_cleared s [] from to g h = absurd g
cover_cleared s (b ∷ []) from to g h = subst (λ m. IsClearedBox s m to) g.0 (subst (λ m. IsClearedBox s b.lo m) g.2 h.0)
cover_cleared s (b ∷ c ∷ cs) from to g h =
    subst (λ m. IsClearedBox s m to) g.0 (side_by_side s b.lo b.hi to h.0 (cover_cleared s (c ∷ cs) b.hi to g.2 h.1))

-- ---- boxes of which none is a peak or undecided
none_first : {A : Type 0} (p : A → Bool) (x : A) (xs : List A) → count_by p (x ∷ xs) ≡ 0 → (p x ≡ false) × (count_by p xs ≡ 0)
none_first p x xs h = by (p x) refl
  where
    by : (t : Bool) → p x ≡ t → (p x ≡ false) × (count_by p xs ≡ 0)
    by true e = absurd (omega (arith, h, count_first p x xs, ap {B = ℕ} (λ t. cond t 1 0) e))
    by false e = (e, omega (arith, h, count_first p x xs, ap {B = ℕ} (λ t. cond t 1 0) e))

cleared_kind : (s : Scanned) (test : BoxTest) (widths : Widths) (lo hi : ℕ) (kind : Kind) → is_peak kind ≡ false → is_undecided kind ≡ false → IsTrueKind s test widths lo hi kind → IsClearedBox s lo hi
cleared_kind s test widths lo hi Cleared p u h = h
cleared_kind s test widths lo hi (Peak at ohms) p u h = absurd cc
cleared_kind s test widths lo hi Undecided p u h = absurd cc

pub all_cleared : (s : Scanned) (test : BoxTest) (widths : Widths) (boxes : List BoxRow) → count_of is_peak boxes ≡ 0 → count_of is_undecided boxes ≡ 0
    → AllByRecursion (IsTrueRow s test widths) boxes → AllByRecursion (λ b. IsClearedBox s b.lo b.hi) boxes
all_cleared s test widths [] p u h = tt
all_cleared s test widths (b ∷ bs) p u h =
    let peaks = none_first (λ (b : BoxRow). is_peak b.kind) b bs p in
    let undecided = none_first (λ (b : BoxRow). is_undecided b.kind) b bs u in
    (cleared_kind s test widths b.lo b.hi b.kind peaks.0 undecided.0 h.0, all_cleared s test widths bs peaks.1 undecided.1 h.1)
