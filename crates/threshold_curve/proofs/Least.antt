-- The least of a curve, and its values.
use Rattle.std.proofs.Common.{◌≡◌, ℕ, ◌*◌, ◌≤◌, ◌<◌, inl, inr, Bool, true, false, pos, List, [], ◌∷◌, refl, sym, ap, subst, subst₂, arith}
use Rattle.std.specs.Prelude.{nat_le, nat_lt, if◌then◌else◌}
use Rattle.std.proofs.Math.Nat.{mul-le-mul_left, le_of_mul-le-mul_left}
use Rattle.std.proofs.lemmas.Bool.Decides.{nat_tests}
use Rattle.exact_algebra.specs.Ratio.{Ratio, ◌≈◌, ◌≼◌, whole}
use Rattle.study_model.specs.declared.curve.CurvePoint.{CurvePoint}
use Rattle.threshold_curve.specs.Curve.{IsRising, between, value_from, lesser, least_from, least_over}
use Rattle.threshold_curve.specs.Laws.{LeastIsBelow, LeastIsReached, FlatIsFlat}
use Rattle.threshold_curve.proofs.Rising.{are_rising}
use Rattle.threshold_curve.proofs.Lines.{above_low, above_high, above_second, at_first, level}
use Rattle.threshold_curve.proofs.Lesser.{at_most_self, at_most_same, at_most_next, lesser_is, lesser_first, lesser_second}

le_true : (m n : ℕ) → nat_le m n ≡ true → m ≤ n
le_true m n h = grind (arith, nat_tests)

le_false : (m n : ℕ) → nat_le m n ≡ false → n < m
le_false m n h = grind (arith, nat_tests)

true_le : (m n : ℕ) → m ≤ n → nat_le m n ≡ true
true_le m n h = grind (arith, nat_tests)

false_le : (m n : ℕ) → n < m → nat_le m n ≡ false
false_le m n h = grind (arith, nat_tests)

lt_true : (m n : ℕ) → nat_lt m n ≡ true → m < n
lt_true m n h = grind (arith, nat_tests)

lt_false : (m n : ℕ) → nat_lt m n ≡ false → n ≤ m
lt_false m n h = grind (arith, nat_tests)

-- past a point, the curve's value is that of the curve from there; before it, that of the line
value_past : (p q : CurvePoint) (rest : List CurvePoint) (x d : ℕ) → q.at * d ≤ x → value_from p (q ∷ rest) x d ≡ value_from q rest x d
value_past p q rest x d past = ap (λ t. if t then value_from q rest x d else between p q x d) (true_le _ _ past)

value_before : (p q : CurvePoint) (rest : List CurvePoint) (x d : ℕ) → x < q.at * d → value_from p (q ∷ rest) x d ≡ between p q x d
value_before p q rest x d before = ap (λ t. if t then value_from q rest x d else between p q x d) (false_le _ _ before)

product_less : (m n d : ℕ) → m < n → 1 ≤ d → m * d < n * d
product_less m n d less some = omega (arith, mul-le-mul_left d less)

-- at its first point a curve has the ohms of the point
value_first : (p : CurvePoint) (rest : List CurvePoint) (d : ℕ) → IsRising p rest → 1 ≤ d → value_from p rest (p.at * d) d ≈ whole (pos p.ohms)
value_first p [] d rises some = record { cross = refl }
value_first p (q ∷ rest) d rises some =
    let apart_by = rises.0 in
    subst (λ v. v ≈ whole (pos p.ohms)) (sym (value_before p q rest (p.at * d) d (product_less p.at q.at d apart_by some))) (at_first p q d apart_by some)

-- on a line the lesser of the values at two places is at most each between
on_line : (p q : CurvePoint) (lo hi x d : ℕ) → p.at < q.at → 1 ≤ d → p.at ≤ lo → lo ≤ hi → hi ≤ q.at → lo * d ≤ x → x ≤ hi * d
    → lesser (between p q lo 1) (between p q hi 1) ≼ between p q x d
on_line p q lo hi x d apart_by some plo ordered hiq from to = by (nat_le p.ohms q.ohms) refl
  where
    start : p.at * d ≤ x
    start = omega (arith, mul-le-mul_left d plo, from)

    end : x ≤ q.at * d
    end = omega (arith, mul-le-mul_left d hiq, to)

    by : (t : Bool) → nat_le p.ohms q.ohms ≡ t → lesser (between p q lo 1) (between p q hi 1) ≼ between p q x d
    by true e = at_most_next (lesser_first _ _) (above_low p q lo x d apart_by some (le_true _ _ e) plo (omega arith) from end)
    by false e = let falls : q.ohms ≤ p.ohms = omega (arith, le_false _ _ e) in at_most_next (lesser_second _ _) (above_high p q hi x d apart_by some falls (omega arith) hiq start to)

-- before the second point, either the value at the first place or the second point's is at most each
before_second : (p q : CurvePoint) (lo x d : ℕ) (least : Ratio) → p.at < q.at → 1 ≤ d → p.at ≤ lo → lo ≤ q.at → lo * d ≤ x → x ≤ q.at * d → least ≼ whole (pos q.ohms)
    → lesser (between p q lo 1) least ≼ between p q x d
before_second p q lo x d least apart_by some plo loq from to below = by (nat_le p.ohms q.ohms) refl
  where
    start : p.at * d ≤ x
    start = omega (arith, mul-le-mul_left d plo, from)

    by : (t : Bool) → nat_le p.ohms q.ohms ≡ t → lesser (between p q lo 1) least ≼ between p q x d
    by true e = at_most_next (lesser_first _ _) (above_low p q lo x d apart_by some (le_true _ _ e) plo loq from to)
    by false e = let falls : q.ohms ≤ p.ohms = omega (arith, le_false _ _ e) in at_most_next (lesser_second _ _) (at_most_next below (above_second p q x d apart_by some falls start to))

-- what the least of a longer curve is, by the place of its second point
abbrev Steps : CurvePoint → CurvePoint → List CurvePoint → ℕ → ℕ → Bool → Bool → Ratio
Steps p q rest lo hi past before =
    if past
    then least_from q rest lo hi
    else if before then lesser (between p q lo 1) (between p q hi 1) else lesser (between p q lo 1) (least_from q rest q.at hi)

ordered_by : (lo hi x d : ℕ) → 1 ≤ d → lo * d ≤ x → x ≤ hi * d → lo ≤ hi
ordered_by lo hi x d some from to = let scaled : d * lo ≤ d * hi = omega (arith, from, to) in le_of_mul-le-mul_left scaled some

-- the law, of the curve that begins at a point
abbrev IsBelow : CurvePoint → List CurvePoint → Type 0
IsBelow p rest = (lo hi x d : ℕ) → p.at ≤ lo → 1 ≤ d → lo * d ≤ x → x ≤ hi * d → least_from p rest lo hi ≼ value_from p rest x d

below_longer : (p q : CurvePoint) (rest : List CurvePoint) → IsRising p (q ∷ rest) → IsBelow q rest → IsBelow p (q ∷ rest)
below_longer p q rest rises below_rest lo hi x d plo some from to = by (nat_le q.at lo) (nat_lt hi q.at) refl refl
  where
    later : IsRising q rest
    later = rises.1

    apart_by : p.at < q.at
    apart_by = rises.0

    ordered : lo ≤ hi
    ordered = ordered_by lo hi x d some from to

    second : q.at ≤ hi → least_from q rest q.at hi ≼ whole (pos q.ohms)
    second reach = at_most_next (below_rest q.at hi (q.at * 1) 1 (omega arith) (omega arith) (omega arith) (omega (arith, reach))) (at_most_same (value_first q rest 1 later (omega arith)))

    by : (past before : Bool) → nat_le q.at lo ≡ past → nat_lt hi q.at ≡ before → Steps p q rest lo hi past before ≼ value_from p (q ∷ rest) x d
    by true before e f =
        let reached : q.at * d ≤ x = omega (arith, mul-le-mul_left d (le_true _ _ e), from) in
        subst (λ v. least_from q rest lo hi ≼ v) (sym (value_past p q rest x d reached)) (below_rest lo hi x d (le_true _ _ e) some from to)
    by false true e f =
        let short : x < q.at * d = omega (arith, product_less hi q.at d (lt_true _ _ f) some, to) in
        subst (λ v. lesser (between p q lo 1) (between p q hi 1) ≼ v) (sym (value_before p q rest x d short)) (on_line p q lo hi x d apart_by some plo ordered (omega (arith, lt_true _ _ f)) from to)
    by false false e f = at_place (nat_le (q.at * d) x) refl
      where
        at_place : (t : Bool) → nat_le (q.at * d) x ≡ t → lesser (between p q lo 1) (least_from q rest q.at hi) ≼ value_from p (q ∷ rest) x d
        at_place true g =
            subst (λ v. lesser (between p q lo 1) (least_from q rest q.at hi) ≼ v) (sym (value_past p q rest x d (le_true _ _ g)))
            (at_most_next (lesser_second _ _) (below_rest q.at hi x d (omega arith) some (le_true _ _ g) to))
        at_place false g =
            subst (λ v. lesser (between p q lo 1) (least_from q rest q.at hi) ≼ v) (sym (value_before p q rest x d (le_false _ _ g)))
            (before_second p q lo x d (least_from q rest q.at hi) apart_by some plo (omega (arith, le_false _ _ e)) from (omega (arith, le_false _ _ g)) (second (lt_false _ _ f)))

below : (p : CurvePoint) (rest : List CurvePoint) → IsRising p rest → IsBelow p rest
below p [] rises = λ lo hi x d plo some from to. at_most_self (whole (pos p.ohms))
below p (q ∷ rest) rises = below_longer p q rest rises (below q rest rises.1)

pub least_is_below : LeastIsBelow
unfolding least_over
least_is_below p rest lo hi x d rises plo some from to = below p rest (are_rising (p ∷ rest) rises) lo hi x d plo some from to

-- a place from lo to hi at which a curve has a value
record IsPlace (p : CurvePoint) (rest : List CurvePoint) (lo hi : ℕ) (value : Ratio) : Type 0 where
  at : ℕ
  from : lo ≤ at
  to : at ≤ hi
  is : value_from p rest at 1 ≈ value

equal_both : {v w z : Ratio} → v ≡ z → w ≡ z → v ≈ w
equal_both {v} {w} {z} e f = subst₂ (λ v w. v ≈ w) (sym e) (sym f) (record { cross = refl })

-- the least is the value at a place
abbrev IsPlaced : CurvePoint → List CurvePoint → Type 0
IsPlaced p rest = (lo hi : ℕ) → p.at ≤ lo → lo ≤ hi → IsPlace p rest lo hi (least_from p rest lo hi)

placed_longer : (p q : CurvePoint) (rest : List CurvePoint) → IsRising p (q ∷ rest) → IsPlaced q rest → IsPlaced p (q ∷ rest)
placed_longer p q rest rises placed_rest lo hi plo ordered = by (nat_le q.at lo) (nat_lt hi q.at) refl refl
  where
    before_q : (at : ℕ) → at < q.at → value_from p (q ∷ rest) at 1 ≡ between p q at 1
    before_q at less = value_before p q rest at 1 (omega (arith, less))

    by : (past before : Bool) → nat_le q.at lo ≡ past → nat_lt hi q.at ≡ before → IsPlace p (q ∷ rest) lo hi (Steps p q rest lo hi past before)
    by true before e f =
        let it = placed_rest lo hi (le_true _ _ e) ordered in
        record { at = it.at; from = it.from; to = it.to; is = subst (λ v. v ≈ least_from q rest lo hi) (sym (value_past p q rest it.at 1 (omega (arith, le_true _ _ e, it.from)))) it.is }
    by false true e f = elim (lesser_is (between p q lo 1) (between p q hi 1)) [
      | inl (g, l) ↦ record { at = lo; from = omega arith; to = ordered; is = equal_both (before_q lo (le_false _ _ e)) g }
      | inr (g, l) ↦ record { at = hi; from = ordered; to = omega arith; is = equal_both (before_q hi (lt_true _ _ f)) g }
    ]
    by false false e f = elim (lesser_is (between p q lo 1) (least_from q rest q.at hi)) [
      | inl (g, l) ↦ record { at = lo; from = omega arith; to = ordered; is = equal_both (before_q lo (le_false _ _ e)) g }
      | inr (g, l) ↦
          let it = placed_rest q.at hi (omega arith) (lt_false _ _ f) in
          record {
            at = it.at;
            from = omega (arith, le_false _ _ e, it.from);
            to = it.to;
            is = subst₂ (λ v w. v ≈ w) (sym (value_past p q rest it.at 1 (omega (arith, it.from)))) (sym g) it.is;
          }
    ]

placed : (p : CurvePoint) (rest : List CurvePoint) → IsRising p rest → IsPlaced p rest
placed p [] rises = λ lo hi plo ordered. record { at = lo; from = omega arith; to = ordered; is = record { cross = refl } }
placed p (q ∷ rest) rises = placed_longer p q rest rises (placed q rest rises.1)

pub least_is_reached : LeastIsReached
unfolding least_over
least_is_reached p rest lo hi rises plo ordered =
    let it = placed p rest (are_rising (p ∷ rest) rises) lo hi plo ordered in
    record { at = it.at; from = it.from; to = it.to; is = it.is }

-- a flat curve
abbrev first_of : ℕ → CurvePoint
first_of ohms = record { at = 100000; ohms = ohms }

abbrev last_of : ℕ → CurvePoint
last_of ohms = record { at = 100000000; ohms = ohms }

pub flat_is_flat : FlatIsFlat
flat_is_flat ohms x d some from = by (nat_le (100000000 * d) x) refl
  where
    by : (t : Bool) → nat_le (100000000 * d) x ≡ t → (if t then whole (pos ohms) else between (first_of ohms) (last_of ohms) x d) ≈ whole (pos ohms)
    by true e = record { cross = refl }
    by false e = level (first_of ohms) (last_of ohms) x d (omega arith) some refl from (omega (arith, le_false _ _ e))
