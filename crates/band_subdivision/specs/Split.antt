-- How a box comes out of a band.
use Rattle.std.specs.Prelude.{◌≡◌, ℕ, ◌-◌, ◌<◌, ◌≤◌, false, Some, None}
use Rattle.band_subdivision.specs.Boxes.{BoxTest, above_at, Widths, middle, kind_of}
use Rattle.scan_report.specs.declared.boxes.BoxRow.{BoxRow}
use Rattle.scan_report.specs.declared.boxes.Kind.{Kind}

-- the test finds the impedance above at none of a box's middle, low end and high end
pub record NamesNoPeak (test : BoxTest) (lo hi : ℕ) : Type 0 where
  pub at_middle : above_at test (middle lo hi) ≡ None
  pub at_low : above_at test lo ≡ None
  pub at_high : above_at test hi ≡ None

-- a box that is split: it is wider than the finest, isn't cleared, and names no peak where it is narrow enough to name one
pub record IsSplit (test : BoxTest) (widths : Widths) (lo hi : ℕ) : Type 0 where
  pub wide : widths.finest < hi - lo
  pub unclear : test.clear lo hi ≡ false
  pub no_peak : hi - lo ≤ widths.locate → NamesNoPeak test lo hi

-- a box is the band from lo to hi itself, or comes out of a half of it after it was split
pub data ComesFrom (test : BoxTest) (widths : Widths) : ℕ → ℕ → BoxRow → Type 0 where
  itself : (lo hi : ℕ) (kind : Kind) → lo < hi → kind_of test widths lo hi ≡ Some kind → ComesFrom test widths lo hi (record { lo = lo; hi = hi; kind = kind })
  lower : (lo hi : ℕ) (row : BoxRow) → IsSplit test widths lo hi → ComesFrom test widths lo (middle lo hi) row → ComesFrom test widths lo hi row
  upper : (lo hi : ℕ) (row : BoxRow) → IsSplit test widths lo hi → ComesFrom test widths (middle lo hi) hi row → ComesFrom test widths lo hi row
