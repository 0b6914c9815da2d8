-- Curves of points, and flat ones.
use Rattle.std.proofs.Common.{◌≡◌, ℕ, ℤ, pos, zero, suc, ◌+◌, ◌-◌, ◌<◌, ◌≤◌, List, [], ◌∷◌, length, drop, arith, length-append, subst, get_or}
use Rattle.std.specs.Prelude.{replicate}
use Rattle.std.specs.List.Sorted.{IsStrictlyIncreasing}
use Rattle.std.proofs.Math.Seq.{drop-append_seam, take-append_seam}
use Rattle.std.proofs.lemmas.Int.{ints}
use Rattle.std.proofs.lemmas.List.{length-replicate, drop-replicate}
use Rattle.std.proofs.lemmas.List.Elements.{All-cons, All-nil}
use Rattle.study_model.specs.Range.{IsIn}
use Rattle.study_model.specs.Curve.{no_point, curve_points, curve_of, flat_points, IsLaidOut, IsLawfulPoint, IsLawfulCurve, Spans}
use Rattle.study_model.specs.declared.curve.TheConstants.{MAX_CURVE_POINTS}
use Rattle.study_model.specs.declared.curve.CurvePoint.{CurvePoint}
use Rattle.study_model.specs.declared.range.TheConstants.Range.{ABOVE_ZERO, BAND}

-- what is left of places without a point
pub none_left : (n : ℕ) → drop {A = CurvePoint} n (replicate MAX_CURVE_POINTS no_point) ≡ replicate (MAX_CURVE_POINTS - n) no_point
none_left n = drop-replicate n MAX_CURVE_POINTS no_point

-- the curve of points lies as it says
pub laid_out : (points : List CurvePoint) → 2 ≤ length points → length points ≤ MAX_CURVE_POINTS → IsLaidOut (curve_of points)
laid_out points least most = record {
  least = least;
  most = most;
  places = omega (arith, length-append points (replicate (MAX_CURVE_POINTS - length points) no_point), length-replicate (MAX_CURVE_POINTS - length points) no_point);
  rest = drop-append_seam points (replicate (MAX_CURVE_POINTS - length points) no_point);
}

-- and has these points
pub points_back : (points : List CurvePoint) → curve_points (curve_of points) ≡ points
points_back points = take-append_seam points (replicate (MAX_CURVE_POINTS - length points) no_point)

pub rising_one : (x : ℕ) → IsStrictlyIncreasing (x ∷ [])
rising_one x = λ k within. absurd (omega (arith, within))

pub rising_more : (x y : ℕ) (ys : List ℕ) → x < y → IsStrictlyIncreasing (y ∷ ys) → IsStrictlyIncreasing (x ∷ y ∷ ys)
rising_more x y ys lt h zero within = lt
rising_more x y ys lt h (suc k) within =
    let next : suc (k + 1) ≡ suc k + 1 = omega arith in
    subst (λ (n : ℕ). get_or (y ∷ ys) k 0 < get_or (x ∷ y ∷ ys) n 0) next (h k (omega (arith, within)))

-- two points, the second at a higher order
pub two_lawful : (p q : CurvePoint) → IsLawfulPoint p → IsLawfulPoint q → p.at < q.at → IsLawfulCurve (curve_of (p ∷ q ∷ []))
two_lawful p q first second lt = record {
  laid_out = laid_out (p ∷ q ∷ []) (omega arith) (omega arith);
  points = All-cons IsLawfulPoint p (q ∷ []) first (All-cons IsLawfulPoint q [] second (All-nil IsLawfulPoint));
  rising = rising_more p.at q.at [] lt (rising_one q.at);
}

-- a flat curve is lawful where its ohms are
pub flat_lawful : (ohms : ℕ) → IsIn ABOVE_ZERO (pos ohms) → IsLawfulCurve (curve_of (flat_points ohms))
flat_lawful ohms h =
    two_lawful (record { at = 100000; ohms = ohms }) (record { at = 100000000; ohms = ohms })
    (record { at = (omega (arith, ints), omega (arith, ints)); ohms = h }) (record { at = (omega (arith, ints), omega (arith, ints)); ohms = h }) (omega arith)

-- and reaches over every band
pub flat_spans : (ohms : ℕ) (from to : ℤ) → IsIn BAND from → IsIn BAND to → Spans (curve_points (curve_of (flat_points ohms))) from to
flat_spans ohms from to f t = record { first = f.0; last = t.1 }

pub ruleset curve_steps = (laid_out, points_back, flat_lawful, flat_spans)
