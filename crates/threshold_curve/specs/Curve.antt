-- A threshold over the orders: straight lines between the points of a curve.
use Rattle.std.specs.Prelude.{ℕ, pos, ◌*◌, ◌+◌, ◌-◌, ◌^◌, ◌≤◌, ◌<◌, ◌*ℤ◌, ◌≤ℤ◌, ◌<ℤ◌, unsigned_abs, nat_le, nat_lt, int_le, if◌then◌else◌, List, [], ◌∷◌}
use Rattle.exact_algebra.specs.Ratio.{Ratio, den, over, times, whole}
use Rattle.exact_fraction.specs.declared.fraction.Fraction.{Fraction}
use Rattle.network_theory.specs.Threshold.{Threshold}
use Rattle.study_model.specs.declared.curve.CurvePoint.{CurvePoint}

-- the micro-ohms at x/d millionths of an order on the line between two points, from the one to the other
unfoldable pub between : CurvePoint → CurvePoint → ℕ → ℕ → Ratio
between p q x d = over (pos (p.ohms * (q.at * d - x) + q.ohms * (x - p.at * d))) ((q.at - p.at) * d)

-- the same on the curve that begins at a point and goes on at these; after its last point it stays as it is there
abbrev pub value_from : CurvePoint → List CurvePoint → ℕ → ℕ → Ratio
value_from p [] x d = whole (pos p.ohms)
value_from p (q ∷ rest) x d = if nat_le (q.at * d) x then value_from q rest x d else between p q x d

-- the same of a curve, from the order of its first point
abbrev pub value_at : List CurvePoint → ℕ → ℕ → Ratio
value_at [] x d = whole (pos 0)
value_at (p ∷ rest) x d = value_from p rest x d

-- each point of a curve that begins at one and goes on at these is at a higher order than the one before
abbrev pub IsRising : CurvePoint → List CurvePoint → Type 0
IsRising p [] = Unit {0}
IsRising p (q ∷ rest) = (p.at < q.at) × IsRising q rest

-- the same of a curve
abbrev pub AreRising : List CurvePoint → Type 0
AreRising [] = Unit {0}
AreRising (p ∷ rest) = IsRising p rest

-- the first point is at this order or a lower one
abbrev pub BeginsBy : List CurvePoint → ℕ → Type 0
BeginsBy [] lo = ⊥
BeginsBy (p ∷ rest) lo = p.at ≤ lo

-- the curve as a threshold in ohms at each order
unfoldable pub curve_at : List CurvePoint → Threshold
curve_at points h = times (value_at points (10 ^ 6 * h.n) h.d) (over (pos 1) (10 ^ 6))

-- the lesser of two, the first where they are equal
unfoldable pub lesser : Ratio → Ratio → Ratio
lesser x y = if int_le (x.num *ℤ den y) (y.num *ℤ den x) then x else y

-- the least micro-ohms from lo to hi millionths of an order, on the curve that begins at a point and goes on at these: on a line it is
-- at an end
abbrev pub least_from : CurvePoint → List CurvePoint → ℕ → ℕ → Ratio
least_from p [] lo hi = whole (pos p.ohms)
least_from p (q ∷ rest) lo hi =
    if nat_le q.at lo
    then least_from q rest lo hi
    else if nat_lt hi q.at then lesser (between p q lo 1) (between p q hi 1) else lesser (between p q lo 1) (least_from q rest q.at hi)

-- the same of a curve, from the order of its first point
unfoldable pub least_over : List CurvePoint → ℕ → ℕ → Ratio
least_over [] lo hi = whole (pos 0)
least_over (p ∷ rest) lo hi = least_from p rest lo hi

-- a fraction of micro-ohms in the range of a curve's values: above 0, below 10^20 over 10^8
pub record IsLevel (level : Fraction) : Type 0 where
  pub least : pos 1 ≤ℤ level.num
  pub most : level.num <ℤ pos (10 ^ 20)
  pub den : unsigned_abs level.den ≤ 10 ^ 8
