-- What the least of a curve says of its values.
use Rattle.std.specs.Prelude.{ℕ, pos, ◌*◌, ◌≤◌, List, ◌∷◌}
use Rattle.std.specs.List.Sorted.{IsStrictlyIncreasing}
use Rattle.exact_algebra.specs.Ratio.{◌≈◌, ◌≼◌, whole}
use Rattle.study_model.specs.Curve.{curve_orders, flat_points}
use Rattle.study_model.specs.declared.curve.CurvePoint.{CurvePoint}
use Rattle.threshold_curve.specs.Curve.{value_at, least_over}

-- at each order from lo to hi, fractional ones too, the curve has at least the least
abbrev pub LeastIsBelow : Type 0
LeastIsBelow = (p : CurvePoint) (rest : List CurvePoint) (lo hi x d : ℕ) → IsStrictlyIncreasing (curve_orders (p ∷ rest)) → p.at ≤ lo → 1 ≤ d → lo * d ≤ x → x ≤ hi * d → least_over (p ∷ rest) lo hi ≼ value_at (p ∷ rest) x d

-- an order from lo to hi, a whole number of millionths, at which the curve has the least
pub record IsReached (points : List CurvePoint) (lo hi : ℕ) : Type 0 where
  pub at : ℕ
  pub from : lo ≤ at
  pub to : at ≤ hi
  pub is : value_at points at 1 ≈ least_over points lo hi

-- the least is the curve's value at some order from lo to hi
abbrev pub LeastIsReached : Type 0
LeastIsReached = (p : CurvePoint) (rest : List CurvePoint) (lo hi : ℕ) → IsStrictlyIncreasing (curve_orders (p ∷ rest)) → p.at ≤ lo → lo ≤ hi → IsReached (p ∷ rest) lo hi

-- a flat curve has the same value at every order of a band
abbrev pub FlatIsFlat : Type 0
FlatIsFlat = (ohms x d : ℕ) → 1 ≤ d → 100000 * d ≤ x → value_at (flat_points ohms) x d ≈ whole (pos ohms)
