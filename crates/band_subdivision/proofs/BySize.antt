-- What the size of an impedance, in units of 1 / 2^scale, says of a threshold.
use Rattle.std.proofs.Common.{◌≡◌, ℕ, ◌+◌, ◌-◌, ◌*◌, ◌^◌, ◌≤◌, ◌<◌, ℤ, pos, ◌≤ℤ◌, ◌*ℤ◌, unsigned_abs, Bool, true, false, Option, Some, None, refl, sym, arith, [], ◌∷◌}
use Rattle.std.specs.Prelude.{nat_lt, int_le, if◌then◌else◌}
use Rattle.std.proofs.lemmas.Bool.Decides.{nat_tests}
use Rattle.std.proofs.lemmas.Int.{ints}
use Rattle.exact_algebra.specs.Ratio.{Ratio, den, ◌≈◌, ◌≼◌, plus, times, opposite, whole, reciprocal}
use Rattle.exact_algebra.specs.Complex.{Complex, square_size}
use Rattle.exact_algebra.proofs.Reader.{reads, linear, weigh, none_left}
use Rattle.exact_algebra.proofs.Ratios.{ratio_ring, ratio_parts, one_apart, num-whole}
use Rattle.exact_algebra.proofs.Order.{NotNegative, ratio_order, at_most_is}
use Rattle.exact_algebra.proofs.Quotients.{square_not_negative}
use Rattle.exact_algebra.proofs.WholeOrder.{≤ℤ_trans, mul-le_pos}
use Rattle.exact_fraction.specs.Scaled.{floor_scaled_of, ceil_scaled_of}
use Rattle.complex_interval.proofs.Ranges.{floor_at_most, ceil_at_least, end_is, same_value}
use Rattle.certified_inverse.proofs.Raw.{raw, num-raw, den-raw, raw-plus, raw-not_negative, raw-more}
use Rattle.network_theory.specs.Order.{Order}
use Rattle.network_theory.specs.Network.{Network}
use Rattle.network_theory.specs.DrivingPoint.{IsDrivingPoint, in_ohms}
use Rattle.network_theory.specs.Threshold.{flat, IsAbove}
use Rattle.network_theory.specs.Scanned.{micro, IsClearedAt, IsPeak}
use Rattle.network_theory.proofs.Ohms.{ohms_square}
use Rattle.band_subdivision.specs.Boxes.{IsTestable}
use Rattle.band_subdivision.specs.InverseTest.{unit_threshold, most_within, least_above, is_at_most, micro_ohms_from, ohms_beyond}
use Rattle.band_subdivision.specs.Levels.{Levels, AreScanLevels, orders, in_ohms_of}
use Rattle.band_subdivision.specs.Truth.{millionths}
use Rattle.band_subdivision.proofs.Comparisons.{one, ohms_scaled}
use Rattle.band_subdivision.proofs.LevelValues.{threshold_at, threshold_is, unit_natural, units, millionth, millionths_are, power_apart, power_natural, ohms_from_below, den_positive}
use Rattle.band_subdivision.proofs.Lifts.{at_most_along, less_unless}
use Rattle.band_subdivision.proofs.Near.{below_square, over_square, ohms_under}
use Rattle.band_subdivision.proofs.Sound.{micro_is_order, micro_inside}

-- ---- what a passed comparison says
lt_true : (m n : ℕ) → nat_lt m n ≡ true → m < n
lt_true m n h = grind (arith, nat_tests)

int_le_true : (m n : ℤ) → int_le m n ≡ true → m ≤ℤ n
int_le_true m n h = grind (arith, ints)

pub record IsAtMost (size : ℕ) (bound : Option ℤ) : Type 0 where
  pub number : ℤ
  pub is_bound : bound ≡ Some number
  pub most : pos size ≤ℤ number

pub at_most_parts : (size : ℕ) (bound : Option ℤ) → is_at_most size bound ≡ true → IsAtMost size bound
at_most_parts size (Some b) h = record { number = b; is_bound = refl; most = int_le_true _ _ h }
at_most_parts size None h = absurd cc

pub record IsBeyond (scale : ℕ) (levels : Levels) (bound : Option ℤ) (size error : ℕ) (ohms : ℤ) : Type 0 where
  pub number : ℤ
  pub is_bound : bound ≡ Some number
  pub least : unsigned_abs number + error < size
  pub is_ohms : ohms ≡ pos (micro_ohms_from scale levels (size - error))

when_true : (t : Bool) (v ohms : ℤ) → (if t then Some v else None) ≡ Some ohms → (t ≡ true) × (ohms ≡ v)
when_true true v ohms h = (refl, cc)
when_true false v ohms h = absurd cc

pub beyond_parts : (scale : ℕ) (levels : Levels) (bound : Option ℤ) (size error : ℕ) (ohms : ℤ) → ohms_beyond scale levels bound size error ≡ Some ohms → IsBeyond scale levels bound size error ohms
beyond_parts scale levels (Some b) size error ohms h = let parts = when_true _ _ ohms h in record { number = b; is_bound = refl; least = lt_true _ _ parts.0; is_ohms = parts.1 }
beyond_parts scale levels None size error ohms h = absurd cc

-- ---- raw numbers
raw_unit : (s : ℕ) → times (raw s 1) (units s) ≈ one
raw_unit s = record { cross = simp (ratio_parts, num-raw, den-raw) (omega (arith, ints)) }

raw_whole : (s n : ℕ) → raw s n ≈ times (whole (pos n)) (raw s 1)
raw_whole s n = record { cross = simp (ratio_parts, num-raw, den-raw) (omega (arith, ints)) }

raw_below : (s n : ℕ) (x : Ratio) → (pos n *ℤ den x) ≤ℤ (x.num *ℤ pos (2 ^ s)) → NotNegative (plus x (opposite (raw s n)))
unfolding den
raw_below s n x h = (at_most_is _ _).0 (record { cross = rw (num-raw s n, den-raw s n) h })

raw_above : (s n : ℕ) (x : Ratio) → (x.num *ℤ pos (2 ^ s)) ≤ℤ (pos n *ℤ den x) → NotNegative (plus (raw s n) (opposite x))
unfolding den
raw_above s n x h = (at_most_is _ _).0 (record { cross = rw (num-raw s n, den-raw s n) h })

-- the threshold in units: at least a number that is at most its floor, and at most its ceiling's size
within_bound : (scale n : ℕ) (levels : Levels) (number : ℤ) → most_within scale levels ≡ Some number → pos n ≤ℤ number → NotNegative (plus (unit_threshold levels) (opposite (raw scale n)))
unfolding most_within
within_bound scale n levels number e up =
    let U = unit_threshold levels in
    let is : number ≡ floor_scaled_of U scale = end_is number _ (sym e) in
    let down : (number *ℤ den U) ≤ℤ (U.num *ℤ pos (2 ^ scale)) = rw is (floor_at_most scale U U (same_value U)) in
    raw_below scale n U (≤ℤ_trans _ _ _ (mul-le_pos (den U) (pos n) number (den_positive U) up) down)

above_bound : (scale : ℕ) (levels : Levels) (number : ℤ) → least_above scale levels ≡ Some number → NotNegative (plus (raw scale (unsigned_abs number)) (opposite (unit_threshold levels)))
unfolding least_above
above_bound scale levels number e =
    let U = unit_threshold levels in
    let is : number ≡ ceil_scaled_of U scale = end_is number _ (sym e) in
    let up : (U.num *ℤ pos (2 ^ scale)) ≤ℤ (number *ℤ den U) = rw is (ceil_at_least scale U U (same_value U)) in
    raw_above scale (unsigned_abs number) U (≤ℤ_trans _ _ _ up (mul-le_pos (den U) number (pos (unsigned_abs number)) (den_positive U) (size_at_least number)))
  where
    size_at_least : (z : ℤ) → z ≤ℤ pos (unsigned_abs z)
    size_at_least z = omega (arith, ints)

-- ---- an impedance of at most so many units
pub cleared_by : (scale n : ℕ) (network : Network) (h : Order) (node : ℕ) (levels : Levels) (Z : Complex) → AreScanLevels levels → IsDrivingPoint network h node Z → IsAtMost n (most_within scale levels)
    → NotNegative (plus (times (raw scale n) (raw scale n)) (opposite (square_size Z))) → IsClearedAt network h node (threshold_at levels h)
cleared_by scale n network h node levels Z in_range exists bound most =
    let B = raw scale n in
    let U = unit_threshold levels in
    let T = threshold_at levels h in
    let z = square_size Z in
    let up = ratio_order.along (linear ratio_ring (U ∷ T ∷ B ∷ []) (weigh ratio_ring one (threshold_is levels h in_range)) (search reads depth 40 fits 4000) none_left) (within_bound scale n levels bound.number bound.is_bound bound.most) in
    record { Z = Z; exists = exists; within = (at_most_is z (times T T)).1 (below_square T B z (raw-not_negative scale n) up most) }

-- ---- and of at least m units, at an order alone
module _ (scale m : ℕ) (network : Network) (node at : ℕ) (levels : Levels) (Z : Complex) (in_range : AreScanLevels levels) (least : NotNegative (plus (square_size Z) (opposite (times (raw scale m) (raw scale m))))) where
  abbrev M : Ratio
  M = raw scale m

  abbrev z : Ratio
  z = square_size Z

  above_by : (number : ℤ) → least_above scale levels ≡ Some number → unsigned_abs number < m → IsAbove (threshold_at levels (micro at)) Z
  above_by number bound over =
      let T = threshold_at levels (micro at) in
      let U = unit_threshold levels in
      let b = raw scale (unsigned_abs number) in
      let r = raw scale 1 in
      let e = threshold_is levels (micro at) in_range in
      let natural_T = ratio_order.along e (unit_natural levels in_range) in
      let under = ratio_order.along (linear ratio_ring (U ∷ T ∷ b ∷ []) (weigh ratio_ring (opposite one) e) (search reads depth 40 fits 4000) none_left) (above_bound scale levels number bound) in
      let sum = raw-plus scale (unsigned_abs number) 1 in
      let next = raw scale (unsigned_abs number + 1) in
      let apart = ratio_order.along (linear ratio_ring (M ∷ b ∷ r ∷ next ∷ []) (weigh ratio_ring (opposite one) sum) (search reads depth 40 fits 4000) none_left) (raw-more scale (unsigned_abs number + 1) m (omega (arith, over))) in
      less_unless (times T T) z (λ l.
      one_apart (ratio_order.both (record { value = 1; is = num-whole (pos 1) })
      (over_square T b M r (units scale) z (raw_unit scale) natural_T (raw-not_negative scale (unsigned_abs number)) (raw-not_negative scale 1) (raw-not_negative scale m) under apart least ((at_most_is z (times T T)).0 l))))

  ohms_by : times (millionths (pos (micro_ohms_from scale levels m))) (millionths (pos (micro_ohms_from scale levels m))) ≼ square_size (in_ohms (millionths levels.kv) (millionths levels.mva) Z)
  ohms_by =
      let n = micro_ohms_from scale levels m in
      let A = millionths (pos n) in
      let V = millionths levels.kv in
      let S = millionths levels.mva in
      let v = reciprocal S in
      let c = times (times V V) v in
      let N = whole (pos m) in
      let W = units scale in
      let scaled : times A W ≼ times c N =
      ohms_scaled A (whole (pos n)) millionth W V (whole levels.kv) S (whole levels.mva) v N
      (millionths_are (pos n)) (millionths_are levels.kv) (millionths_are levels.mva) (power_apart levels in_range) (power_natural levels in_range) (ohms_from_below scale levels m in_range) in
      at_most_along (times A A) _ _ (ohms_square V S Z)
      ((at_most_is (times A A) (times z (times c c))).1
      (ohms_under A c M N (raw scale 1) W z (raw_unit scale) (raw_whole scale m) (raw-not_negative scale 1) (record { value = n; is = refl })
      (ratio_order.product (square_not_negative V) (power_natural levels in_range)) (raw-not_negative scale m) ((at_most_is (times A W) (times c N)).0 scaled) least))

  pub peak_by : (from : ℕ) (number : ℤ) → IsTestable from at at → IsDrivingPoint network (micro at) node Z → least_above scale levels ≡ Some number → unsigned_abs number < m
      → IsPeak network node (flat (in_ohms_of levels.threshold)) (millionths levels.kv) (millionths levels.mva) (orders at at) at (micro_ohms_from scale levels m)
  peak_by from number testable exists bound over =
      record { is_order = micro_is_order from at testable; inside = micro_inside at; there = record { Z = Z; exists = exists; above = above_by number bound over }; ohms = ohms_by }
