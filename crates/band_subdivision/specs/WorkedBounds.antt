-- Bounds worked by hand, at 10 kV and 100 MVA, where 1 per unit is 1 ohm.
use Rattle.std.specs.Prelude.{◌≡◌, ℤ, pos, ℕ, Some}
use Rattle.exact_algebra.specs.Ratio.{over}
use Rattle.band_subdivision.specs.IntervalTest.{clear_bound, above_bound}
use Rattle.band_subdivision.specs.InverseTest.{most_within, least_above}
use Rattle.band_subdivision.specs.Levels.{Levels}

-- levels with a threshold of n/d micro-ohms
abbrev pub ohm_levels : ℤ → ℕ → Levels
ohm_levels n d = record { threshold = over n d; kv = pos 10000000; mva = pos 100000000 }

pub record WorkedBounds : Type 0 where
  -- half an ohm: 2·2^40, with nothing to round
  pub half_clear : clear_bound 40 (ohm_levels (pos 500000) 1) ≡ Some (pos 2199023255552)
  pub half_above : above_bound 40 (ohm_levels (pos 500000) 1) ≡ Some (pos 2199023255552)
  -- 3 ohms: 2^40/3 is 366503875925 and a third
  pub third_clear : clear_bound 40 (ohm_levels (pos 6000000) 2) ≡ Some (pos 366503875926)
  pub third_above : above_bound 40 (ohm_levels (pos 6000000) 2) ≡ Some (pos 366503875925)
  -- a third of an ohm: the same bounds of the impedance
  pub third_within : most_within 40 (ohm_levels (pos 1000000) 3) ≡ Some (pos 366503875925)
  pub third_over : least_above 40 (ohm_levels (pos 1000000) 3) ≡ Some (pos 366503875926)
