-- The law of a Series without capacitive reactance.
use Rattle.std.specs.Prelude.{ℕ, pos, Option, Some}
use Rattle.std.specs.Ordering.{int_eq}
use Rattle.std.specs.Option.{option_map}
use Rattle.exact_algebra.specs.Ratio.{Ratio, over}
use Rattle.complex_interval.specs.Ends.{Ends, range_ends}
use Rattle.admittance_box.specs.Addends.{LawEnds, OfSeries}
use Rattle.admittance_box.specs.Steps.{◌>>=◌}

-- from a law to itself, by the intervals of its resistance and its reactance
abbrev pub series_of : ℕ → Option Ends → Ratio → Ratio → Option Ends → Option LawEnds
series_of s r k m x = do
  re ← r
  ke ← range_ends s k k
  me ← range_ends s m m
  xe ← x
  xce ← range_ends s (over (pos 0) 1) (over (pos 0) 1)
  Some (OfSeries (record { r = re; k = ke; m = me; x = xe; xc = xce; plain = int_eq k.num (pos 0) }))
