-- The levels of boxes by a curve.
use Rattle.std.proofs.Common.{◌≡◌, ℕ, suc, ◌+◌, ◌*◌, ◌-◌, ◌^◌, ◌≤◌, ◌<◌, pos, ◌≤ℤ◌, Bool, true, false, nat_le, List, [], ◌∷◌, inl, inr, refl, sym, subst, arith}
use Rattle.std.specs.Prelude.{nat_lt, if◌then◌else◌, slice_get, IsSomeAnd}
use Rattle.std.specs.List.{AllByRecursion}
use Rattle.std.specs.List.Sorted.{IsStrictlyIncreasing}
use Rattle.std.proofs.lemmas.Bool.Decides.{nat_tests}
use Rattle.std.proofs.lemmas.Int.{ints}
use Rattle.std.proofs.lemmas.List.Elements.{recursion_from_All}
use Rattle.std.proofs.lemmas.Nat.{mul-le}
use Rattle.exact_algebra.specs.Ratio.{Ratio, over, ◌≈◌, ◌≼◌, times}
use Rattle.exact_algebra.proofs.Reader.{reads, ring, none_left}
use Rattle.exact_algebra.proofs.Ratios.{ratio_ring, num-whole}
use Rattle.exact_algebra.proofs.Order.{NotNegative, ratio_order, at_most_is}
use Rattle.network_theory.specs.Order.{Order, IsOrder}
use Rattle.network_theory.specs.Box.{LiesIn}
use Rattle.network_theory.specs.Scanned.{micro}
use Rattle.study_model.specs.Curve.{curve_points, curve_orders, IsLawfulPoint}
use Rattle.study_model.specs.declared.curve.CurvePoint.{CurvePoint}
use Rattle.threshold_curve.specs.Curve.{between, value_from, value_at, IsRising, BeginsBy, curve_at, lesser, least_from, least_over}
use Rattle.threshold_curve.proofs.Least.{least_is_below, least_is_reached}
use Rattle.threshold_curve.proofs.Lesser.{lesser_is}
use Rattle.threshold_curve.proofs.Lines.{over_is}
use Rattle.threshold_curve.proofs.Rising.{are_rising}
use Rattle.band_subdivision.specs.Levels.{AreLevelsOf, orders, in_ohms_of}
use Rattle.band_subdivision.specs.ScanSpec.{HasLevels, threshold_of, levels_of}
use Rattle.band_subdivision.specs.declared.scan_spec.ScanSpec.{ScanSpec}

le_true : (m n : ℕ) → nat_le m n ≡ true → m ≤ n
le_true m n h = grind (arith, nat_tests)

le_false : (m n : ℕ) → nat_le m n ≡ false → n < m
le_false m n h = grind (arith, nat_tests)

true_le : (m n : ℕ) → m ≤ n → nat_le m n ≡ true
true_le m n h = grind (arith, nat_tests)

false_le : (m n : ℕ) → n < m → nat_le m n ≡ false
false_le m n h = grind (arith, nat_tests)

-- a curve that spans a band begins by each of its orders
pub begins_by : (points : List CurvePoint) (from lo : ℕ) → IsSomeAnd (slice_get points 0) (λ (point : CurvePoint). pos point.at ≤ℤ pos from) → from ≤ lo → BeginsBy points lo
begins_by [] from lo h up = h
begins_by (p ∷ rest) from lo h up = omega (arith, ints, h, up)

-- ---- values above 0
line_some : (p q : CurvePoint) (x : ℕ) → 1 ≤ p.ohms → 1 ≤ q.ohms → p.at < q.at → p.at ≤ x → x ≤ q.at → pos 1 ≤ℤ (between p q x 1).num
unfolding between
line_some p q x a b apart low high =
    let first : 1 * (q.at - x) ≤ p.ohms * (q.at * 1 - x) = mul-le 1 (q.at - x) p.ohms (q.at * 1 - x) a (omega arith) in
    let second : 1 * (x - p.at) ≤ q.ohms * (x - p.at * 1) = mul-le 1 (x - p.at) q.ohms (x - p.at * 1) b (omega arith) in
    omega (arith, ints, first, second, apart, low, high)

lesser_some : (x y : Ratio) → pos 1 ≤ℤ x.num → pos 1 ≤ℤ y.num → pos 1 ≤ℤ (lesser x y).num
lesser_some x y a b = elim (lesser_is x y) [
  | inl e ↦ subst (λ (z : Ratio). pos 1 ≤ℤ z.num) (sym e.0) a
  | inr e ↦ subst (λ (z : Ratio). pos 1 ≤ℤ z.num) (sym e.0) b
]

ohms_some : (p : CurvePoint) → IsLawfulPoint p → 1 ≤ p.ohms
ohms_some p h = let low : pos 1 ≤ℤ pos p.ohms = h.ohms.0 in omega (arith, ints, low)

from_some : (p : CurvePoint) (rest : List CurvePoint) (lo hi : ℕ) → IsRising p rest → AllByRecursion IsLawfulPoint (p ∷ rest) → p.at ≤ lo → lo ≤ hi → pos 1 ≤ℤ (least_from p rest lo hi).num
from_some p [] lo hi rises lawful low ordered = let some = ohms_some p lawful.0 in rw num-whole (omega (arith, ints, some))
from_some p (q ∷ rest) lo hi rises lawful low ordered =
    by (nat_le q.at lo) (nat_lt hi q.at) refl refl (λ from. from_some q rest lo hi rises.1 lawful.1 from ordered) (λ to. from_some q rest q.at hi rises.1 lawful.1 (omega arith) to)
  where
    lt_true : (m n : ℕ) → nat_lt m n ≡ true → m < n
    lt_true m n h = grind (arith, nat_tests)

    lt_false : (m n : ℕ) → nat_lt m n ≡ false → n ≤ m
    lt_false m n h = grind (arith, nat_tests)

    by : (t u : Bool) → nat_le q.at lo ≡ t → nat_lt hi q.at ≡ u → (q.at ≤ lo → pos 1 ≤ℤ (least_from q rest lo hi).num) → (q.at ≤ hi → pos 1 ≤ℤ (least_from q rest q.at hi).num)
        → pos 1 ≤ℤ (if t then least_from q rest lo hi else if u then lesser (between p q lo 1) (between p q hi 1) else lesser (between p q lo 1) (least_from q rest q.at hi)).num
    by true u is_t is_u past_it around = past_it (le_true _ _ is_t)
    by false true is_t is_u past_it around =
        let before = le_false _ _ is_t in
        let past = lt_true _ _ is_u in
        let apart = rises.0 in
        lesser_some _ _ (line_some p q lo (ohms_some p lawful.0) (ohms_some q lawful.1.0) apart low (omega (arith, before))) (line_some p q hi (ohms_some p lawful.0) (ohms_some q lawful.1.0) apart (omega (arith, low, ordered)) (omega (arith, past)))
    by false false is_t is_u past_it around =
        let before = le_false _ _ is_t in
        lesser_some _ _ (line_some p q lo (ohms_some p lawful.0) (ohms_some q lawful.1.0) rises.0 low (omega (arith, before))) (around (lt_false _ _ is_u))

pub least_some : (points : List CurvePoint) (lo hi : ℕ) → IsStrictlyIncreasing (curve_orders points) → AllByRecursion IsLawfulPoint points → BeginsBy points lo → lo ≤ hi → pos 1 ≤ℤ (least_over points lo hi).num
unfolding least_over
least_some [] lo hi rises lawful begins ordered = absurd begins
least_some (p ∷ rest) lo hi rises lawful begins ordered = from_some p rest lo hi (are_rising (p ∷ rest) rises) lawful begins ordered

-- ---- the same order by other numbers
scaled_gap : (a x c : ℕ) → a * c - c * x ≡ c * (a * 1 - x)
scaled_gap a x c = by (nat_le x a) refl
  where
    by : (t : Bool) → nat_le x a ≡ t → a * c - c * x ≡ c * (a * 1 - x)
    by true is =
        let k = a - x in
        let low = le_true _ _ is in
        let e : a ≡ x + k = omega (arith, low) in
        let m : a * c ≡ c * x + c * k = subst (λ i. i * c ≡ c * x + c * k) (sym e) (omega arith) in
        let n : a * 1 - x ≡ k = omega (arith, low) in
        subst (λ i. a * c - c * x ≡ c * i) (sym n) (omega (arith, m))
    by false is =
        let low = le_false _ _ is in
        let m : c * a ≤ c * x = mul-le c a c x (omega arith) (omega (arith, low)) in
        let n : a * 1 - x ≡ 0 = omega (arith, low) in
        subst (λ i. a * c - c * x ≡ c * i) (sym n) (omega (arith, m))

scaled_gap_above : (a x c : ℕ) → c * x - a * c ≡ c * (x - a * 1)
scaled_gap_above a x c = by (nat_le a x) refl
  where
    by : (t : Bool) → nat_le a x ≡ t → c * x - a * c ≡ c * (x - a * 1)
    by true is =
        let k = x - a in
        let low = le_true _ _ is in
        let e : x ≡ a + k = omega (arith, low) in
        let m : c * x ≡ a * c + c * k = subst (λ i. c * i ≡ a * c + c * k) (sym e) (omega arith) in
        let n : x - a * 1 ≡ k = omega (arith, low) in
        subst (λ i. c * x - a * c ≡ c * i) (sym n) (omega (arith, m))
    by false is =
        let low = le_false _ _ is in
        let m : c * x ≤ c * a = mul-le c x c a (omega arith) (omega (arith, low)) in
        let n : x - a * 1 ≡ 0 = omega (arith, low) in
        subst (λ i. c * x - a * c ≡ c * i) (sym n) (omega (arith, m))

line_scaled : (p q : CurvePoint) (x c : ℕ) → p.at < q.at → 1 ≤ c → between p q (c * x) c ≈ between p q x 1
unfolding between
line_scaled p q x c apart some =
    let width : 1 ≤ q.at - p.at = omega (arith, apart) in
    let one : 1 * 1 ≤ (q.at - p.at) * c = mul-le 1 1 (q.at - p.at) c width some in
    over_is _ _ ((q.at - p.at) * c) ((q.at - p.at) * 1) (omega (arith, one)) (omega (arith, width))
    (parts p.ohms q.ohms (q.at * c - c * x) (c * x - p.at * c) (q.at * 1 - x) (x - p.at * 1) (q.at - p.at) c (scaled_gap q.at x c) (scaled_gap_above p.at x c))
  where
    parts : (v w g h g' h' n c : ℕ) → g ≡ c * g' → h ≡ c * h' → (v * g + w * h) * (n * 1) ≡ (v * g' + w * h') * (n * c)
    parts v w g h g' h' n c eg eh = rw (eg, eh) (omega arith)

value_scaled : (p : CurvePoint) (rest : List CurvePoint) (x c : ℕ) → IsRising p rest → 1 ≤ c → value_from p rest (c * x) c ≈ value_from p rest x 1
value_scaled p [] x c rises some = ratio_ring.same _
value_scaled p (q ∷ rest) x c rises some = by (nat_le (q.at * 1) x) refl (value_scaled q rest x c rises.1 some)
  where
    by : (t : Bool) → nat_le (q.at * 1) x ≡ t → value_from q rest (c * x) c ≈ value_from q rest x 1 → value_from p (q ∷ rest) (c * x) c ≈ (if t then value_from q rest x 1 else between p q x 1)
    by true is later =
        let low = le_true _ _ is in
        let m : c * q.at ≤ c * x = mul-le c q.at c x (omega arith) (omega (arith, low)) in
        let e : nat_le (q.at * c) (c * x) ≡ true = true_le _ _ (omega (arith, m)) in
        rw e later
    by false is later =
        let low = le_false _ _ is in
        let m : c * suc x ≤ c * q.at = mul-le c (suc x) c q.at (omega arith) (omega (arith, low)) in
        let e : nat_le (q.at * c) (c * x) ≡ false = false_le _ _ (omega (arith, m, some)) in
        rw e (line_scaled p q x c rises.0 some)

-- ---- the levels of a scan
in_ohms_most : (x y : Ratio) → x ≼ y → in_ohms_of x ≼ in_ohms_of y
in_ohms_most x y h =
    let u = over (pos 1) (10 ^ 6) in
    let natural : NotNegative u = record { value = 1; is = refl } in
    (at_most_is (times x u) (times y u)).1 (ratio_order.along (ring ratio_ring (x ∷ y ∷ u ∷ []) (search reads depth 40 fits 4000) none_left) (ratio_order.product ((at_most_is x y).0 h) natural))

module _ (points : List CurvePoint) (rises : IsStrictlyIncreasing (curve_orders points)) where
  least_below : (lo hi : ℕ) (h : Order) → BeginsBy points lo → IsOrder h → LiesIn h (orders lo hi) → in_ohms_of (least_over points lo hi) ≼ curve_at points h
  unfolding curve_at
  least_below lo hi h begins is_order inside = in_ohms_most _ _ (at_points points rises begins)
    where
      at_points : (ps : List CurvePoint) → IsStrictlyIncreasing (curve_orders ps) → BeginsBy ps lo → least_over ps lo hi ≼ value_at ps (10 ^ 6 * h.n) h.d
      at_points [] r b = absurd b
      at_points (p ∷ rest) r b = least_is_below p rest lo hi (10 ^ 6 * h.n) h.d r b is_order.d inside.low inside.high

  least_here : (at : ℕ) → BeginsBy points at → in_ohms_of (least_over points at at) ≈ curve_at points (micro at)
  unfolding curve_at
  least_here at begins = ratio_ring.mul_same (at_points points rises begins) (ratio_ring.same (over (pos 1) (10 ^ 6)))
    where
      at_points : (ps : List CurvePoint) → IsStrictlyIncreasing (curve_orders ps) → BeginsBy ps at → least_over ps at at ≈ value_at ps (10 ^ 6 * at) (10 ^ 6)
      at_points [] r b = absurd b
      at_points (p ∷ rest) r b =
          let reached = least_is_reached p rest at at r b (omega arith) in
          let low = reached.from in
          let high = reached.to in
          let same : reached.at ≡ at = omega (arith, low, high) in
          let here : value_at (p ∷ rest) at 1 ≈ least_over (p ∷ rest) at at = subst (λ i. value_at (p ∷ rest) i 1 ≈ least_over (p ∷ rest) at at) same reached.is in
          ratio_ring.back (ratio_ring.next (value_scaled p rest at (10 ^ 6) (are_rising (p ∷ rest) r) (omega arith)) here)

pub levels_hold : (spec : ScanSpec) → HasLevels spec → AreLevelsOf spec.from (threshold_of spec) spec.kv spec.mva (levels_of spec)
levels_hold spec h =
    let points = curve_points spec.curve in
    record {
      in_range = λ lo hi testable. record {
        some = least_some points lo hi h.curve.rising (recursion_from_All IsLawfulPoint points h.curve.points) (begins_by points spec.from lo h.spans.first testable.begins) testable.ordered;
        kv = h.kv;
        mva = h.mva;
      };
      same_kv = λ lo hi. refl;
      same_mva = λ lo hi. refl;
      below = λ lo hi order testable is_order inside. least_below points h.curve.rising lo hi order (begins_by points spec.from lo h.spans.first testable.begins) is_order inside;
      reached = λ at testable. least_here points h.curve.rising at (begins_by points spec.from at h.spans.first testable.begins);
    }
