-- Boxes that are counted one after another.
use Rattle.std.proofs.Common.{◌≡◌, ℕ, ℤ, ◌+◌, ◌^◌, ◌<◌, Bool, cond, List, [], ◌∷◌, length, refl, ap, arith}
use Rattle.std.proofs.lemmas.List.Sums.{count_by-le-length, sum_by-cons}
use Rattle.std.specs.Prelude.{count_by}
use Rattle.scan_report.specs.declared.boxes.BoxRow.{BoxRow}
use Rattle.scan_report.specs.declared.boxes.Kind.{Kind}
use Rattle.scan_report.specs.declared.boxes.Kind.TheVariants.{Cleared, Peak, Undecided}
use Rattle.study_scans.specs.Regions.{is_cleared, is_peak, is_undecided, count_of}
use Rattle.study_variants.specs.Kinds.{row_of_boxes, with_kind}
use Rattle.study_variants.specs.declared.size_row.SizeRow.{SizeRow}

-- the first one, and the others
pub count_first : {A : Type 0} (p : A → Bool) (x : A) (xs : List A) → count_by p (x ∷ xs) ≡ cond (p x) 1 0 + count_by p xs
count_first p x xs = sum_by-cons (λ y. cond (p y) 1 0) x xs

-- some boxes were counted, and the others are still to be
pub record AreCounted (row : SizeRow) (left whole : List BoxRow) : Type 0 where
  pub cleared : row.cleared + count_of is_cleared left ≡ count_of is_cleared whole
  pub peaks : row.peaks + count_of is_peak left ≡ count_of is_peak whole
  pub undecided : row.undecided + count_of is_undecided left ≡ count_of is_undecided whole

abbrev row_with : ℤ → ℕ → ℕ → ℕ → SizeRow
row_with size cleared peaks undecided = record { size = size; cleared = cleared; peaks = peaks; undecided = undecided }

pub none_counted : (size : ℤ) (whole : List BoxRow) → AreCounted (row_with size 0 0 0) whole whole
none_counted size whole = record { cleared = omega arith; peaks = omega arith; undecided = omega arith }

same_row : (size : ℤ) (a b c d e f : ℕ) → a ≡ d → b ≡ e → c ≡ f → row_with size a b c ≡ row_with size d e f
same_row size a b c d e f x y z = cc

pub all_counted : (row : SizeRow) (whole : List BoxRow) → AreCounted row [] whole → row ≡ row_of_boxes row.size whole
all_counted row whole h = same_row row.size row.cleared row.peaks row.undecided _ _ _ (omega (arith, h.cleared)) (omega (arith, h.peaks)) (omega (arith, h.undecided))

-- what a box of a kind adds to a count
abbrev one_of : (Kind → Bool) → Kind → ℕ
one_of p kind = cond (p kind) 1 0

one_or_none : (p : Kind → Bool) {k l : Kind} → k ≡ l → one_of p k ≡ one_of p l
one_or_none p e = ap (one_of p) e

pub one_counted : (row : SizeRow) (b : BoxRow) (left whole : List BoxRow) → AreCounted row (b ∷ left) whole → AreCounted (with_kind b.kind row) left whole
one_counted row b left whole h = by b.kind refl
  where
    by : (kind : Kind) → b.kind ≡ kind → AreCounted (with_kind kind row) left whole
    by Cleared e = record {
      cleared = omega (arith, h.cleared, count_first (λ b. is_cleared b.kind) b left, one_or_none is_cleared e);
      peaks = omega (arith, h.peaks, count_first (λ b. is_peak b.kind) b left, one_or_none is_peak e);
      undecided = omega (arith, h.undecided, count_first (λ b. is_undecided b.kind) b left, one_or_none is_undecided e);
    }
    by (Peak at ohms) e = record {
      cleared = omega (arith, h.cleared, count_first (λ b. is_cleared b.kind) b left, one_or_none is_cleared e);
      peaks = omega (arith, h.peaks, count_first (λ b. is_peak b.kind) b left, one_or_none is_peak e);
      undecided = omega (arith, h.undecided, count_first (λ b. is_undecided b.kind) b left, one_or_none is_undecided e);
    }
    by Undecided e = record {
      cleared = omega (arith, h.cleared, count_first (λ b. is_cleared b.kind) b left, one_or_none is_cleared e);
      peaks = omega (arith, h.peaks, count_first (λ b. is_peak b.kind) b left, one_or_none is_peak e);
      undecided = omega (arith, h.undecided, count_first (λ b. is_undecided b.kind) b left, one_or_none is_undecided e);
    }

-- so no count is above the number of boxes
pub count_room : (row : SizeRow) (left whole : List BoxRow) → AreCounted row left whole → length whole + 1 < 2 ^ 32
    → (row.cleared + 1 < 2 ^ 32) × (row.peaks + 1 < 2 ^ 32) × (row.undecided + 1 < 2 ^ 32)
count_room row left whole h few = (
  omega (arith, h.cleared, count_by-le-length (λ (b : BoxRow). is_cleared b.kind) whole, few),
  omega (arith, h.peaks, count_by-le-length (λ (b : BoxRow). is_peak b.kind) whole, few),
  omega (arith, h.undecided, count_by-le-length (λ (b : BoxRow). is_undecided b.kind) whole, few),
)
