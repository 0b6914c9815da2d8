-- What the impedance over a box of orders is compared with.
use Rattle.std.specs.Prelude.{◌≡◌, ℕ, ◌^◌, ◌≤◌, ℤ, pos, ◌≤ℤ◌, unsigned_abs}
use Rattle.exact_algebra.specs.Ratio.{Ratio, ◌≈◌, ◌≼◌, over, times}
use Rattle.exact_fraction.specs.Fraction.{ratio_of}
use Rattle.network_theory.specs.Order.{Order, IsOrder}
use Rattle.network_theory.specs.Box.{Box, LiesIn}
use Rattle.network_theory.specs.Scanned.{micro}
use Rattle.network_theory.specs.Threshold.{Threshold}
use Rattle.study_model.specs.Range.{IsIn}
use Rattle.study_model.specs.declared.range.TheConstants.Range.{BUS_KV, BASE_MVA}
use Rattle.band_subdivision.specs.Boxes.{IsTestable}
use Rattle.band_subdivision.specs.declared.scan_levels.ScanLevels.{ScanLevels}

-- the threshold of a box in micro-ohms, and the base values in millionths
pub record Levels : Type 0 where
  pub threshold : Ratio
  pub kv : ℤ
  pub mva : ℤ

-- the levels that are kept
abbrev pub levels_in : ScanLevels → Levels
levels_in kept = record { threshold = ratio_of kept.threshold; kv = kept.kv; mva = kept.mva }

-- a threshold above 0, and base values in the ranges of a study
pub record AreScanLevels (levels : Levels) : Type 0 where
  pub some : pos 1 ≤ℤ levels.threshold.num
  pub kv : IsIn BUS_KV levels.kv
  pub mva : IsIn BASE_MVA levels.mva

-- levels that are kept: the threshold is at most 10^20 over at most 10^8
pub record IsKept (kept : ScanLevels) : Type 0 where
  pub levels : AreScanLevels (levels_in kept)
  pub most : kept.threshold.num ≤ℤ pos (10 ^ 20)
  pub parts : unsigned_abs kept.threshold.den ≤ 10 ^ 8

-- the orders from lo to hi
abbrev pub orders : ℕ → ℕ → Box
orders lo hi = record { lo = lo; hi = hi }

-- micro-ohms in ohms
abbrev pub in_ohms_of : Ratio → Ratio
in_ohms_of micro_ohms = times micro_ohms (over (pos 1) (10 ^ 6))

-- the levels of boxes from an order on, for a threshold in ohms at each order: that of a box is at most the threshold at each order of the box, and equal to it where the box is one order
pub record AreLevelsOf (from : ℕ) (threshold : Threshold) (kv mva : ℤ) (levels : ℕ → ℕ → Levels) : Type 0 where
  pub in_range : (lo hi : ℕ) → IsTestable from lo hi → AreScanLevels (levels lo hi)
  pub same_kv : (lo hi : ℕ) → (levels lo hi).kv ≡ kv
  pub same_mva : (lo hi : ℕ) → (levels lo hi).mva ≡ mva
  pub below : (lo hi : ℕ) (h : Order) → IsTestable from lo hi → IsOrder h → LiesIn h (orders lo hi) → in_ohms_of (levels lo hi).threshold ≼ threshold h
  pub reached : (at : ℕ) → IsTestable from at at → in_ohms_of (levels at at).threshold ≈ threshold (micro at)
