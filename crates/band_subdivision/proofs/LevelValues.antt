-- The exact values of a scan's levels, and the order of fractions from that of whole numbers.
use Rattle.std.proofs.Common.{◌≡◌, ℕ, suc, ◌*◌, ◌-◌, ◌/◌, ◌^◌, ◌≤◌, ◌<◌, ℤ, pos, negsuc, ◌*ℤ◌, ◌≤ℤ◌, ◌<ℤ◌, unsigned_abs, refl, ap, arith, [], ◌∷◌}
use Rattle.std.proofs.lemmas.Int.{ints}
use Rattle.exact_algebra.specs.Ratio.{Ratio, den, over, ◌≈◌, ◌≼◌, plus, times, opposite, whole, reciprocal}
use Rattle.exact_algebra.specs.Complex.{Complex, square_size}
use Rattle.exact_algebra.proofs.Reader.{reads, ring, linear, weigh, join, none_left}
use Rattle.exact_algebra.proofs.Integers.{int_ring, int-mul_one}
use Rattle.exact_algebra.proofs.Ratios.{ratio_ring, ratio_parts, times_reciprocal, num-times}
use Rattle.exact_algebra.proofs.Order.{NotNegative, ratio_order}
use Rattle.exact_algebra.proofs.Quotients.{apart_above, not_negative_in, square_not_negative}
use Rattle.exact_algebra.proofs.WholeOrder.{pos-mul, square_above, mul-le_pos, ≤ℤ_trans}
use Rattle.exact_fraction.specs.Root.{root_ceil_of}
use Rattle.complex_interval.specs.Rectangles.{IsAtMostSquare, IsAtLeastSquare}
use Rattle.complex_interval.proofs.Sizes.{four}
use Rattle.network_theory.specs.Order.{Order}
use Rattle.network_theory.specs.Threshold.{flat, per_unit}
use Rattle.band_subdivision.specs.IntervalTest.{inverse_threshold, micro_ohms_of}
use Rattle.band_subdivision.specs.InverseTest.{unit_threshold, micro_ohms_from}
use Rattle.band_subdivision.specs.Levels.{Levels, AreScanLevels, in_ohms_of}
use Rattle.band_subdivision.specs.Truth.{millionths}
use Rattle.band_subdivision.proofs.Comparisons.{levels_by}

-- the number of units in 1
abbrev pub units : ℕ → Ratio
units scale = whole (pos (2 ^ scale))

-- one millionth
abbrev pub millionth : Ratio
millionth = millionths (pos 1)

-- ---- whole numbers as fractions
pub natural : (n : ℕ) → NotNegative (whole (pos n))
natural n = not_negative_in (whole (pos n)) (simp ratio_parts (omega (arith, ints)))

pub square_below : (n m : ℕ) → n * n ≤ m → times (whole (pos n)) (whole (pos n)) ≼ whole (pos m)
square_below n m h = record { cross = simp ratio_parts (omega (arith, ints)) }

pub within_square : (n m : ℕ) → m ≤ n * n → whole (pos m) ≼ times (whole (pos n)) (whole (pos n))
within_square n m h = record { cross = simp ratio_parts (omega (arith, ints)) }

pub square_over : (n m : ℕ) → m < n * n → plus (whole (pos m)) (whole (pos 1)) ≼ times (whole (pos n)) (whole (pos n))
square_over n m h = record { cross = simp ratio_parts (omega (arith, ints)) }

pub apart_natural : (n : ℕ) → 0 < n → times (whole (pos n)) (reciprocal (whole (pos n))) ≈ whole (pos 1)
apart_natural n h = times_reciprocal (whole (pos n)) (apart_above (whole (pos n)) (simp ratio_parts (omega (arith, ints))))

-- ---- bounds in units
pub den_positive : (x : Ratio) → pos 0 <ℤ den x
unfolding den
den_positive x = omega (arith, ints)

pub scaled_below : (x : Ratio) (s n : ℕ) (z : ℤ) → (x.num *ℤ pos (2 ^ s)) ≤ℤ (z *ℤ den x) → z ≤ℤ pos n → times x (units s) ≼ whole (pos n)
scaled_below x s n z h up =
    let most : (x.num *ℤ pos (2 ^ s)) ≤ℤ (pos n *ℤ den x) = ≤ℤ_trans _ _ _ h (mul-le_pos (den x) z (pos n) (den_positive x) up) in
    record { cross = simp (ratio_parts, int-mul_one) most }

pub scaled_above : (x : Ratio) (s n : ℕ) → (pos n *ℤ den x) ≤ℤ (x.num *ℤ pos (2 ^ s)) → whole (pos n) ≼ times x (units s)
scaled_above x s n h = record { cross = simp (ratio_parts, int-mul_one) h }

pub held_above : (s n : ℕ) (z : Complex) → IsAtMostSquare s n z → whole (pos n) ≼ times (square_size z) (times (units s) (units s))
held_above s n z h = record { cross = simp (ratio_parts, int-mul_one) (rw four at h) }

pub held_below : (s n : ℕ) (z : Complex) → IsAtLeastSquare s n z → times (square_size z) (times (units s) (units s)) ≼ whole (pos n)
held_below s n z h = record { cross = simp (ratio_parts, int-mul_one) (rw four at h) }

-- ---- the levels
den-millionths : (d : ℤ) → den (millionths d) ≡ pos (10 ^ 6)
unfolding den
den-millionths d = refl

pub millionths_are : (d : ℤ) → millionths d ≈ times (whole d) millionth
millionths_are d = record { cross = simp (ratio_parts, den-millionths) (omega (arith, ints)) }

den-over : (n z : ℤ) → pos 1 ≤ℤ z → den (over n (unsigned_abs z)) ≡ z
unfolding den
den-over n (pos k) h = let e : suc (k - 1) ≡ k = omega (arith, ints) in ap pos e
den-over n (negsuc k) h = absurd (omega (arith, ints))

pub above_zero : (d : ℤ) (n : ℕ) → pos (suc n) ≤ℤ d → pos 0 <ℤ d
above_zero d n h = omega (arith, ints)

at_least_one : (a b : ℤ) → pos 0 <ℤ a → pos 0 <ℤ b → pos 1 ≤ℤ (a *ℤ b)
at_least_one a b p q = let some = pos-mul a b p q in omega (arith, ints)

one_above : (z : ℤ) → pos 1 ≤ℤ z → pos 0 <ℤ z
one_above z h = omega (arith, ints)

power_some : (levels : Levels) → AreScanLevels levels → pos 1 ≤ℤ (levels.threshold.num *ℤ levels.mva)
power_some levels h = at_least_one levels.threshold.num levels.mva (one_above _ h.some) (above_zero levels.mva _ h.mva.0)

volts_some : (levels : Levels) → AreScanLevels levels → pos 1 ≤ℤ (levels.kv *ℤ levels.kv *ℤ den levels.threshold)
volts_some levels h =
    let some = above_zero levels.kv _ h.kv.0 in
    at_least_one (levels.kv *ℤ levels.kv) (den levels.threshold) (pos-mul levels.kv levels.kv some some) (den_positive levels.threshold)

pub inverse_times : (levels : Levels) → AreScanLevels levels
    → times (inverse_threshold levels) (times levels.threshold (whole levels.mva)) ≈ times (whole levels.kv) (whole levels.kv)
unfolding inverse_threshold
inverse_times levels h =
    let below = den-over (levels.kv *ℤ levels.kv *ℤ den levels.threshold) (levels.threshold.num *ℤ levels.mva) (power_some levels h) in
    record { cross = simp (ratio_parts, below) (ring int_ring (levels.kv ∷ levels.threshold.num ∷ den levels.threshold ∷ levels.mva ∷ []) (search reads depth 40 fits 4000) none_left) }

-- the threshold per unit by its two numbers is the inverse of its inverse
unit_inverse : (levels : Levels) → AreScanLevels levels → times (inverse_threshold levels) (unit_threshold levels) ≈ whole (pos 1)
unfolding inverse_threshold unit_threshold
unit_inverse levels h =
    let below = den-over (levels.kv *ℤ levels.kv *ℤ den levels.threshold) (levels.threshold.num *ℤ levels.mva) (power_some levels h) in
    let below_unit = den-over (levels.threshold.num *ℤ levels.mva) (levels.kv *ℤ levels.kv *ℤ den levels.threshold) (volts_some levels h) in
    record { cross = simp (ratio_parts, below, below_unit) (ring int_ring (levels.kv ∷ levels.threshold.num ∷ den levels.threshold ∷ levels.mva ∷ []) (search reads depth 40 fits 4000) none_left) }

-- the inverse of the voltage's square
pub volts_apart : (levels : Levels) → AreScanLevels levels
    → times (times (millionths levels.kv) (millionths levels.kv)) (reciprocal (times (millionths levels.kv) (millionths levels.kv))) ≈ whole (pos 1)
volts_apart levels h =
    let volts = millionths levels.kv in
    let some = above_zero levels.kv _ h.kv.0 in
    times_reciprocal (times volts volts) (apart_above (times volts volts) (rw num-times (pos-mul levels.kv levels.kv some some)))

-- and of the power
pub power_apart : (levels : Levels) → AreScanLevels levels → times (millionths levels.mva) (reciprocal (millionths levels.mva)) ≈ whole (pos 1)
power_apart levels h = times_reciprocal (millionths levels.mva) (apart_above (millionths levels.mva) (above_zero levels.mva _ h.mva.0))

-- neither the inverse threshold nor the inverse of the power is below zero
pub inverse_natural : (levels : Levels) → NotNegative (inverse_threshold levels)
unfolding inverse_threshold
inverse_natural levels = not_negative_in (inverse_threshold levels) (natural_product (levels.kv *ℤ levels.kv) (den levels.threshold) (square_above levels.kv) (den_positive levels.threshold))
  where
    natural_product : (a b : ℤ) → pos 0 ≤ℤ a → pos 0 <ℤ b → pos 0 ≤ℤ (a *ℤ b)
    natural_product a b p q = let k = mul-le_pos b (pos 0) a q p in omega (arith, ints, k)

pub power_natural : (levels : Levels) → AreScanLevels levels → NotNegative (reciprocal (millionths levels.mva))
power_natural levels h =
    let S = millionths levels.mva in
    let v = reciprocal S in
    let some = above_zero levels.mva _ h.mva.0 in
    ratio_order.along (linear ratio_ring (S ∷ v ∷ []) (weigh ratio_ring v (power_apart levels h)) (search reads depth 40 fits 4000) none_left)
    (ratio_order.product (not_negative_in S (omega (arith, ints))) (square_not_negative v))

-- the threshold per unit, where the threshold is that of these levels at every order
abbrev pub threshold_at : Levels → Order → Ratio
threshold_at levels h = per_unit (flat (in_ohms_of levels.threshold)) (millionths levels.kv) (millionths levels.mva) h

-- the inverse threshold is its inverse
pub threshold_inverse : (levels : Levels) (h : Order) → AreScanLevels levels → times (threshold_at levels h) (inverse_threshold levels) ≈ whole (pos 1)
unfolding per_unit
threshold_inverse levels h in_range =
    levels_by (in_ohms_of levels.threshold) levels.threshold millionth (millionths levels.kv) (whole levels.kv) (millionths levels.mva) (whole levels.mva)
    (reciprocal (times (millionths levels.kv) (millionths levels.kv))) (inverse_threshold levels)
    (ratio_ring.same _) (millionths_are levels.kv) (millionths_are levels.mva) (volts_apart levels in_range) (inverse_times levels in_range)

-- the threshold per unit by its two numbers
pub threshold_is : (levels : Levels) (h : Order) → AreScanLevels levels → unit_threshold levels ≈ threshold_at levels h
threshold_is levels h in_range =
    let T = threshold_at levels h in
    let U = unit_threshold levels in
    let v = inverse_threshold levels in
    linear ratio_ring (T ∷ U ∷ v ∷ []) (join ratio_ring (weigh ratio_ring T (unit_inverse levels in_range)) (weigh ratio_ring (opposite U) (threshold_inverse levels h in_range)))
    (search reads depth 40 fits 4000) none_left

-- it isn't below zero
pub unit_natural : (levels : Levels) → AreScanLevels levels → NotNegative (unit_threshold levels)
unfolding unit_threshold
unit_natural levels h = not_negative_in (unit_threshold levels) (let some = power_some levels h in omega (arith, ints, some))

-- the micro-ohms, times the power and a root of `high`, are at most the voltage's square in units
pub ohms_below : (scale : ℕ) (levels : Levels) (high : ℕ) → AreScanLevels levels
    → times (whole (pos (micro_ohms_of scale levels high))) (times (whole levels.mva) (whole (pos (root_ceil_of high)))) ≼ times (times (whole levels.kv) (whole levels.kv)) (units scale)
unfolding micro_ohms_of
ohms_below scale levels high h =
    record { cross = simp (ratio_parts, int-mul_one) (at_most levels.kv levels.mva (2 ^ scale) (root_ceil_of high) (above_zero levels.kv _ h.kv.0) (above_zero levels.mva _ h.mva.0)) }
  where
    at_most : (k m : ℤ) (u r : ℕ) → pos 0 <ℤ k → pos 0 <ℤ m → (pos (unsigned_abs k * unsigned_abs k * u / (unsigned_abs m * r)) *ℤ (m *ℤ pos r)) ≤ℤ (k *ℤ k *ℤ pos u)
    at_most (pos k) (pos m) u r p q = let part : k * k * u / (m * r) * (m * r) ≤ k * k * u = omega arith in omega (arith, ints)
    at_most (pos k) (negsuc m) u r p q = absurd (omega (arith, ints))
    at_most (negsuc k) m u r p q = absurd (omega (arith, ints))

-- and so with a size of the impedance in units
pub ohms_from_below : (scale : ℕ) (levels : Levels) (size : ℕ) → AreScanLevels levels
    → times (whole (pos (micro_ohms_from scale levels size))) (times (whole levels.mva) (units scale)) ≼ times (times (whole levels.kv) (whole levels.kv)) (whole (pos size))
unfolding micro_ohms_from
ohms_from_below scale levels size h =
    record { cross = simp (ratio_parts, int-mul_one) (at_most levels.kv levels.mva (2 ^ scale) size (above_zero levels.kv _ h.kv.0) (above_zero levels.mva _ h.mva.0)) }
  where
    at_most : (k m : ℤ) (u n : ℕ) → pos 0 <ℤ k → pos 0 <ℤ m → (pos (n * (unsigned_abs k * unsigned_abs k) / (u * unsigned_abs m)) *ℤ (m *ℤ pos u)) ≤ℤ (k *ℤ k *ℤ pos n)
    at_most (pos k) (pos m) u n p q = let part : n * (k * k) / (u * m) * (u * m) ≤ n * (k * k) = omega arith in omega (arith, ints)
    at_most (pos k) (negsuc m) u n p q = absurd (omega (arith, ints))
    at_most (negsuc k) m u n p q = absurd (omega (arith, ints))
