-- Curves that rise, by cases on their points.
use Rattle.std.proofs.Common.{◌≡◌, suc, ◌+◌, ◌<◌, List, [], ◌∷◌, subst, arith}
use Rattle.std.specs.Prelude.{slice_index}
use Rattle.std.specs.List.Sorted.{IsStrictlyIncreasing}
use Rattle.study_model.specs.Curve.{curve_orders}
use Rattle.study_model.specs.declared.curve.CurvePoint.{CurvePoint}
use Rattle.threshold_curve.specs.Curve.{IsRising, AreRising}

later_steps : (p q : CurvePoint) (rest : List CurvePoint) → IsStrictlyIncreasing (curve_orders (p ∷ q ∷ rest)) → IsStrictlyIncreasing (curve_orders (q ∷ rest))
later_steps p q rest rises = λ k inside.
    let next : suc k + 1 ≡ suc (k + 1) = omega arith in
    subst (λ n. slice_index (curve_orders (p ∷ q ∷ rest)) (suc k) < slice_index (curve_orders (p ∷ q ∷ rest)) n) next (rises (suc k) (omega (arith, inside)))

is_rising : (p : CurvePoint) (rest : List CurvePoint) → IsStrictlyIncreasing (curve_orders (p ∷ rest)) → IsRising p rest
is_rising p [] rises = tt
is_rising p (q ∷ rest) rises = (rises 0 (omega arith), is_rising q rest (later_steps p q rest rises))

pub are_rising : (points : List CurvePoint) → IsStrictlyIncreasing (curve_orders points) → AreRising points
are_rising [] rises = tt
are_rising (p ∷ rest) rises = is_rising p rest rises
