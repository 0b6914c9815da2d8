-- The intervals of the values of a series branch.
use Rattle.std.specs.Prelude.{ℕ, Bool, ◌&&◌, Option, Some, IfSome, pos}
use Rattle.std.specs.Ordering.{int_eq}
use Rattle.exact_algebra.specs.Ratio.{Ratio, ◌≼◌}
use Rattle.exact_fraction.specs.declared.fraction.Fraction.{Fraction}
use Rattle.exact_fraction.specs.Fraction.{ratio_of}
use Rattle.complex_interval.specs.Ends.{Ends, range_ends}
use Rattle.admittance_box.specs.declared.series.SeriesParameters.{SeriesParameters}
use Rattle.admittance_box.specs.declared.series.SeriesValues.{SeriesValues}
use Rattle.admittance_box.specs.Admittance.{SeriesEnds}
use Rattle.admittance_box.specs.Held.{HoldsSeries}
use Rattle.admittance_box.specs.Steps.{◌>>=◌}

-- the value is 0
abbrev pub is_nought : Fraction → Bool
is_nought x = int_eq x.num (pos 0)

-- the ends of the parameters
abbrev pub series_ends : {E : Type 0} → (E → Ends) → SeriesParameters E → SeriesEnds
series_ends ends p = record { r = ends p.r; k = ends p.k; m = ends p.m; x = ends p.x; xc = ends p.xc; plain = p.plain }

-- each value of low is at most that of high
pub record AreOrdered (low high : SeriesValues) : Type 0 where
  pub r : ratio_of low.r ≼ ratio_of high.r
  pub k : ratio_of low.k ≼ ratio_of high.k
  pub m : ratio_of low.m ≼ ratio_of high.m
  pub x : ratio_of low.x ≼ ratio_of high.x
  pub xc : ratio_of low.xc ≼ ratio_of high.xc

-- the parameters from r, k, m, x and xc to r', k', m', x' and xc'; k counts as 0 where it is 0 in both
abbrev pub series_between : ℕ → Ratio → Ratio → Ratio → Ratio → Ratio → Ratio → Ratio → Ratio → Ratio → Ratio → Option SeriesEnds
series_between s r k m x xc r' k' m' x' xc' = do
  re ← range_ends s r r'
  ke ← range_ends s k k'
  me ← range_ends s m m'
  xe ← range_ends s x x'
  xce ← range_ends s xc xc'
  Some (record { r = re; k = ke; m = me; x = xe; xc = xce; plain = int_eq k.num (pos 0) && int_eq k'.num (pos 0) })

-- the parameters from the values of low to those of high
abbrev pub ends_between : ℕ → SeriesValues → SeriesValues → Option SeriesEnds
ends_between s low high = series_between s (ratio_of low.r) (ratio_of low.k) (ratio_of low.m) (ratio_of low.x) (ratio_of low.xc) (ratio_of high.r) (ratio_of high.k) (ratio_of high.m) (ratio_of high.x) (ratio_of high.xc)

-- x is at least the one value and at most the other
pub record IsBetween (low high : Fraction) (x : Ratio) : Type 0 where
  pub from : ratio_of low ≼ x
  pub to : x ≼ ratio_of high

-- the result, if there is one, holds each r, k, m, x and xc between those of low and high
abbrev pub HoldsBetween : ℕ → SeriesValues → SeriesValues → Option SeriesEnds → Type 0
HoldsBetween s low high result =
    (r k m x xc : Ratio) → IsBetween low.r high.r r → IsBetween low.k high.k k → IsBetween low.m high.m m → IsBetween low.x high.x x → IsBetween low.xc high.xc xc
    → IfSome result (λ p. HoldsSeries s p r k m x xc)
