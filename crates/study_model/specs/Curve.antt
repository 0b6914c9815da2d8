-- The threshold of a scan over the orders.
use Rattle.std.specs.Prelude.{◌≡◌, ℕ, ℤ, pos, ◌-◌, ◌≤◌, ◌≤ℤ◌, List, [], ◌∷◌, ◌++◌, length, take, drop, map, replicate, slice_get, All, IsSomeAnd}
use Rattle.std.specs.List.Sorted.{IsStrictlyIncreasing}
use Rattle.study_model.specs.Range.{IsIn}
use Rattle.study_model.specs.declared.curve.TheConstants.{MAX_CURVE_POINTS}
use Rattle.study_model.specs.declared.curve.Curve.{Curve}
use Rattle.study_model.specs.declared.curve.CurvePoint.{CurvePoint}
use Rattle.study_model.specs.declared.range.TheConstants.Range.{ABOVE_ZERO, BAND}

-- what stands in a place without a point
abbrev pub no_point : CurvePoint
no_point = record { at = 0; ohms = 0 }

-- the points of a curve
abbrev pub curve_points : Curve → List CurvePoint
curve_points curve = take curve.len curve.points

-- the curve of at most so many points
abbrev pub curve_of : List CurvePoint → Curve
curve_of points = record { len = length points; points = points ++ replicate (MAX_CURVE_POINTS - length points) no_point }

-- the orders of points, in millionths
abbrev pub curve_orders : List CurvePoint → List ℕ
curve_orders points = map (λ (point : CurvePoint). point.at) points

-- the same ohms at every order of a band
abbrev pub flat_points : ℕ → List CurvePoint
flat_points ohms = record { at = 100000; ohms = ohms } ∷ record { at = 100000000; ohms = ohms } ∷ []

-- how a curve lies: two points or more, and none after them
pub record IsLaidOut (curve : Curve) : Type 0 where
  pub least : 2 ≤ curve.len
  pub most : curve.len ≤ MAX_CURVE_POINTS
  pub places : length curve.points ≡ MAX_CURVE_POINTS
  pub rest : drop curve.len curve.points ≡ replicate (MAX_CURVE_POINTS - curve.len) no_point

-- an order of a band, and ohms above 0
pub record IsLawfulPoint (point : CurvePoint) : Type 0 where
  pub at : IsIn BAND (pos point.at)
  pub ohms : IsIn ABOVE_ZERO (pos point.ohms)

-- a curve whose points are lawful, each at a higher order than the one before
pub record IsLawfulCurve (curve : Curve) : Type 0 where
  pub laid_out : IsLaidOut curve
  pub points : All IsLawfulPoint (curve_points curve)
  pub rising : IsStrictlyIncreasing (curve_orders (curve_points curve))

-- points that reach from one order to another: the first is at most the one, and the last at least the other
pub record Spans (points : List CurvePoint) (from to : ℤ) : Type 0 where
  pub first : IsSomeAnd (slice_get points 0) (λ (point : CurvePoint). pos point.at ≤ℤ from)
  pub last : IsSomeAnd (slice_get points (length points - 1)) (λ (point : CurvePoint). to ≤ℤ pos point.at)
