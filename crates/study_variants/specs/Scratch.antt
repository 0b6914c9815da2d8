-- A size and a scan of its network from scratch. They differ in one thing: the susceptance of the bank is added to what elimination leaves at the driven
-- node, or to the last diagonal entry of the matrix, before elimination. The two sums are equal wherever no sum is out of range.
use Rattle.std.specs.Prelude.{◌≡◌, ℕ, zero, suc, ◌-◌, ◌≤◌, ℤ, false, List, [], ◌∷◌, length, Option, None, IfSome, IsSome, IfOk}
use Rattle.std.specs.List.{AllByRecursion}
use Rattle.complex_interval.specs.Ends.{Ends, range_ends, add_ends, mul_ends}
use Rattle.complex_interval.specs.Rectangles.{Rectangle, sub_rectangles, mul_rectangles, div_rectangles}
use Rattle.network_theory.specs.Network.{Network}
use Rattle.element_parts.specs.PerUnit.{susceptance_of_rating}
use Rattle.plain_elimination.specs.Elimination.{later_rows}
use Rattle.plain_elimination.specs.Rectangles.{rectangles, reduce_rectangles}
use Rattle.admittance_box.specs.Orders.{order_ends}
use Rattle.admittance_box.specs.Steps.{◌>>=◌}
use Rattle.band_subdivision.specs.Boxes.{BoxTest, above_at, Widths, middle}
use Rattle.band_subdivision.specs.PairTest.{pair_rows}
use Rattle.band_subdivision.specs.ScanSpec.{widths_of}
use Rattle.band_subdivision.specs.Split.{IsSplit}
use Rattle.scan_report.specs.declared.boxes.BoxRow.{BoxRow}
use Rattle.study_scans.specs.Scan.{ordering_of, test_over, boxes_by}
use Rattle.study_variants.specs.Kinds.{row_of_boxes}
use Rattle.study_variants.specs.Sizes.{Sizing, size_test, size_network}
use Rattle.study_variants.specs.declared.size_row.SizeRow.{SizeRow}

-- ---- a scan from scratch
-- the test of a scan of the size's network, at a scale of intervals
abbrev pub scratch_test : ℕ → Sizing → ℤ → BoxTest
scratch_test scale c q = test_over scale c.spec (size_network c q) (size_network c q) c.driven

-- the boxes of its band
abbrev pub scratch_boxes : ℕ → Sizing → ℤ → List BoxRow
scratch_boxes scale c q = boxes_by (scratch_test scale c q) c.spec

-- a size with the counts of these boxes
unfoldable pub scratch_row : ℕ → Sizing → ℤ → SizeRow
scratch_row scale c q = row_of_boxes q (scratch_boxes scale c q)

-- ---- the boxes that a scan asks its test of
-- a box that isn't cleared, and is narrow enough to name a peak
pub record LooksForPeak (test : BoxTest) (widths : Widths) (lo hi : ℕ) : Type 0 where
  pub unclear : test.clear lo hi ≡ false
  pub narrow : hi - lo ≤ widths.locate

-- of a band from lo to hi: the band itself; where a peak is looked for, its middle, then its low end, then its high end, as long as none was above; and where it is split, those of its halves
pub data Asks (test : BoxTest) (widths : Widths) : ℕ → ℕ → ℕ → ℕ → Type 0 where
  itself : (lo hi : ℕ) → Asks test widths lo hi lo hi
  at_middle : (lo hi : ℕ) → LooksForPeak test widths lo hi → Asks test widths lo hi (middle lo hi) (middle lo hi)
  at_low : (lo hi : ℕ) → LooksForPeak test widths lo hi → above_at test (middle lo hi) ≡ None → Asks test widths lo hi lo lo
  at_high : (lo hi : ℕ) → LooksForPeak test widths lo hi → above_at test (middle lo hi) ≡ None → above_at test lo ≡ None → Asks test widths lo hi hi hi
  lower : (lo hi l h : ℕ) → IsSplit test widths lo hi → Asks test widths lo (middle lo hi) l h → Asks test widths lo hi l h
  upper : (lo hi l h : ℕ) → IsSplit test widths lo hi → Asks test widths (middle lo hi) hi l h → Asks test widths lo hi l h

-- ---- sums in range
-- in a sweep: each difference a - f a0 is in range, where the product is
abbrev pub SweepInRange : ℕ → Rectangle → List Rectangle → List Rectangle → Type 0
SweepInRange s f [] row = Unit {0}
SweepInRange s f (a0 ∷ first) [] = Unit {0}
SweepInRange s f (a0 ∷ first) (a ∷ row) = IfSome (mul_rectangles s f a0) (λ t. IsSome (sub_rectangles a t)) × SweepInRange s f first row

-- so in the sweep of a later row, unless its first entry is zero
abbrev pub LaterInRange : ℕ → Rectangle → List Rectangle → List Rectangle → Type 0
LaterInRange s pivot first [] = Unit {0}
LaterInRange s pivot first (a ∷ row) = (rectangles s).is_zero a ≡ false → IfSome (div_rectangles s a pivot) (λ f. SweepInRange s f first row)

-- so in n steps of a reduction, as far as it comes
abbrev pub StepsInRange : ℕ → ℕ → List (List Rectangle) → Type 0
StepsInRange s zero rows = Unit {0}
StepsInRange s (suc n) [] = Unit {0}
StepsInRange s (suc n) ([] ∷ rows) = Unit {0}
StepsInRange s (suc n) ((pivot ∷ first) ∷ rows) =
    (rectangles s).holds_zero pivot ≡ false → AllByRecursion (LaterInRange s pivot first) rows × IfSome (later_rows (rectangles s) pivot first rows) (StepsInRange s n)

-- and in the reduction of a network's matrix over the orders from lo to hi
abbrev pub ReducesInRange : ℕ → Network → List ℕ → ℕ → ℕ → Type 0
ReducesInRange s network ordering lo hi = IfSome (pair_rows s network network ordering lo hi) (λ rows. StepsInRange s (length rows - 1) rows)

-- H·b for the susceptance b of a size, over the orders from lo to hi
abbrev pub bank_ends : ℕ → Sizing → ℤ → ℕ → ℕ → Option Ends
bank_ends s c q lo hi = range_ends s (susceptance_of_rating q c.spec.mva) (susceptance_of_rating q c.spec.mva) >>= mul_ends s (order_ends s lo hi)

-- over the orders from lo to hi no sum is out of range
pub record SumsInRange (s : ℕ) (c : Sizing) (q : ℤ) (lo hi : ℕ) : Type 0 where
  -- in the reduction of the matrix of the network that is kept
  pub kept : ReducesInRange s c.network c.ordering lo hi
  -- where H·b is added to the imaginary part of what that leaves
  pub last : IfSome (pair_rows s c.network c.network c.ordering lo hi) (λ rows. IfOk (reduce_rectangles s rows) (λ y. IfSome (bank_ends s c q lo hi) (λ more. IsSome (add_ends y.im more))))
  -- in the matrix of the size's network, to which only that of the bank is added
  pub matrix : IfSome (pair_rows s c.network c.network c.ordering lo hi) (λ rows. IfSome (bank_ends s c q lo hi) (λ more. IsSome (pair_rows s (size_network c q) (size_network c q) (ordering_of (size_network c q) c.driven) lo hi)))
  -- in the reduction of that matrix
  pub scratch : ReducesInRange s (size_network c q) (ordering_of (size_network c q) c.driven) lo hi

-- at each box that both scans ask their tests of, that of the size and that from scratch
abbrev pub NoSumIsOut : ℕ → Sizing → ℤ → Type 0
NoSumIsOut s c q =
    (lo hi : ℕ) → Asks (size_test s c q) (widths_of c.spec) c.spec.from c.spec.to lo hi → Asks (scratch_test s c q) (widths_of c.spec) c.spec.from c.spec.to lo hi → SumsInRange s c q lo hi
