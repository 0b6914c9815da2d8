-- The boxes of a band, by a test of boxes.
use Rattle.std.specs.Prelude.{ℕ, zero, suc, ℤ, ◌+◌, ◌-◌, ◌/◌, ◌≤◌, Bool, if◌then◌else◌, nat_le, List, [], ◌∷◌, ◌++◌, Option, Some, None}
use Rattle.scan_report.specs.declared.boxes.Kind.{Kind}
use Rattle.scan_report.specs.declared.boxes.Kind.TheVariants.{Cleared, Peak, Undecided}
use Rattle.scan_report.specs.declared.boxes.BoxRow.{BoxRow}

-- which boxes the test clears, and over which it finds the impedance above, with micro-ohms
pub record BoxTest : Type 0 where
  pub clear : ℕ → ℕ → Bool
  pub above : ℕ → ℕ → Option ℤ

-- what it finds at an order alone
abbrev pub above_at : BoxTest → ℕ → Option ℤ
above_at test at = test.above at at

-- a box of orders above 0, in micro-orders, that begins at this order or a higher one
pub record IsTestable (from lo hi : ℕ) : Type 0 where
  pub above : 1 ≤ lo
  pub begins : from ≤ lo
  pub ordered : lo ≤ hi

-- the widths down to which boxes are split, and from which peaks are named
pub record Widths : Type 0 where
  pub finest : ℕ
  pub locate : ℕ

-- the floor of the middle
abbrev pub middle : ℕ → ℕ → ℕ
middle lo hi = (lo + hi) / 2

-- a peak at this order if the test finds it above, else what comes after
abbrev pub peak_or : ℕ → Option ℤ → Option Kind → Option Kind
peak_or at (Some ohms) other = Some (Peak at ohms)
peak_or at None other = other

-- the first of the middle, the low end and the high end that is above
abbrev pub peak_of : BoxTest → ℕ → ℕ → Option Kind → Option Kind
peak_of test lo hi other = peak_or (middle lo hi) (above_at test (middle lo hi)) (peak_or lo (above_at test lo) (peak_or hi (above_at test hi) other))

-- what becomes of a box: its kind, or none where it is split
unfoldable pub kind_of : BoxTest → Widths → ℕ → ℕ → Option Kind
kind_of test widths lo hi =
    let rest = (if nat_le (hi - lo) widths.finest then Some Undecided else None) in
    if test.clear lo hi then Some Cleared
    else (if nat_le (hi - lo) widths.locate then peak_of test lo hi rest else rest)

-- the box alone, or the boxes of its halves
abbrev pub settled : Option Kind → ℕ → ℕ → List BoxRow → List BoxRow
settled (Some kind) lo hi halves = record { lo = lo; hi = hi; kind = kind } ∷ []
settled None lo hi halves = halves

-- the boxes of a band, in at most so many levels
abbrev pub boxes_within : ℕ → BoxTest → Widths → ℕ → ℕ → List BoxRow
boxes_within zero test widths lo hi = []
boxes_within (suc n) test widths lo hi =
    settled (kind_of test widths lo hi) lo hi (boxes_within n test widths lo (middle lo hi) ++ boxes_within n test widths (middle lo hi) hi)

-- The boxes of a band. A split box has halves of less width, so there are at most as many levels as the band is wide.
unfoldable pub boxes_of : BoxTest → Widths → ℕ → ℕ → List BoxRow
boxes_of test widths lo hi = boxes_within (hi - lo) test widths lo hi
