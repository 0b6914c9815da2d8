-- The elimination part is sound.
use Rattle.std.proofs.Common.{◌≡◌, ℕ, ◌*◌, ◌^◌, ◌≤◌, ◌<◌, ℤ, pos, negsuc, ◌≤ℤ◌, ◌*ℤ◌, unsigned_abs, Bool, true, false, Option, Some, None, refl, sym, subst, arith, [], ◌∷◌}
use Rattle.std.specs.Prelude.{nat_le, nat_lt, ◌&&◌, if◌then◌else◌}
use Rattle.std.proofs.lemmas.Bool.Decides.{nat_tests}
use Rattle.std.proofs.lemmas.Int.{ints}
use Rattle.std.proofs.lemmas.Nat.{pow_pos}
use Rattle.exact_algebra.specs.Ratio.{◌≈◌, ◌≼◌, times, opposite, whole, reciprocal}
use Rattle.exact_algebra.specs.Complex.{Complex, complex_numbers, square_size}
use Rattle.exact_algebra.specs.Floor.{floor_div}
use Rattle.exact_algebra.proofs.Reader.{reads, linear, weigh, none_left}
use Rattle.exact_algebra.proofs.Ratios.{ratio_ring, num-whole}
use Rattle.exact_algebra.proofs.Order.{NotNegative, ratio_order, at_most_is}
use Rattle.exact_algebra.proofs.Quotients.{not_negative_out, opposite_out}
use Rattle.exact_algebra.proofs.Squares.{square_size-along, square_size-nought, square_size-not_negative, sizes_of_inverse}
use Rattle.exact_fraction.specs.Scaled.{floor_scaled_of, ceil_scaled_of}
use Rattle.exact_fraction.specs.Root.{root_ceil_of}
use Rattle.exact_fraction.proofs.Roots.{root_ceil_is, root_ceil_positive}
use Rattle.complex_interval.specs.Rectangles.{Rectangle, low_square_sum, high_square_sum}
use Rattle.complex_interval.proofs.Ranges.{floor_at_most, ceil_at_least, end_is, same_value}
use Rattle.complex_interval.proofs.Sizes.{low_square_bound, high_square_bound}
use Rattle.network_theory.specs.Order.{Order, IsOrder}
use Rattle.network_theory.specs.Box.{LiesIn}
use Rattle.network_theory.specs.Network.{Network}
use Rattle.network_theory.specs.DrivingPoint.{in_ohms}
use Rattle.network_theory.specs.Threshold.{flat}
use Rattle.network_theory.specs.Scanned.{micro, IsClearedAt, IsPeakAt, IsPeak}
use Rattle.network_theory.proofs.Reduced.{cleared, reduced_impedance, times_inverse}
use Rattle.network_theory.proofs.Sizes.{above_by}
use Rattle.network_theory.proofs.Ohms.{ohms_square}
use Rattle.band_subdivision.specs.Boxes.{IsTestable}
use Rattle.band_subdivision.specs.IntervalTest.{inverse_threshold, clear_bound, above_bound, micro_ohms_of, is_clear_by, ohms_above_by, elimination_test}
use Rattle.band_subdivision.specs.Levels.{Levels, AreScanLevels, orders, in_ohms_of}
use Rattle.admittance_box.specs.HeldMatrix.{HoldsReduced}
use Rattle.band_subdivision.specs.Truth.{millionths, scanned_by, IsTruePeak, EliminationTestIsSound}
use Rattle.band_subdivision.proofs.Comparisons.{clear_by, not_clear_by, ohms_by, ohms_scaled}
use Rattle.band_subdivision.proofs.LevelValues.{threshold_at, units, millionth, natural, square_below, within_square, square_over, apart_natural, scaled_below, scaled_above, held_above, held_below, millionths_are, power_apart, power_natural, inverse_natural, threshold_inverse, ohms_below}
use Rattle.band_subdivision.proofs.Lifts.{at_most_along, less_unless, clear_with, peak_with}
use Rattle.band_subdivision.proofs.TestSteps.{high_positive}
open complex_numbers use {nought, inverse}

-- ---- what a passed test says of its bound and its box
record IsClearBy (bound : Option ℤ) (reduced : Option Rectangle) : Type 0 where
  pub number : ℤ
  pub held : Rectangle
  pub is_bound : bound ≡ Some number
  pub is_held : reduced ≡ Some held
  pub least : unsigned_abs number * unsigned_abs number ≤ low_square_sum held

le_true : (m n : ℕ) → nat_le m n ≡ true → m ≤ n
le_true m n h = grind (arith, nat_tests)

lt_true : (m n : ℕ) → nat_lt m n ≡ true → m < n
lt_true m n h = grind (arith, nat_tests)

clear_parts : (bound : Option ℤ) (reduced : Option Rectangle) → is_clear_by bound reduced ≡ true → IsClearBy bound reduced
clear_parts (Some b) (Some y) h = record { number = b; held = y; is_bound = refl; is_held = refl; least = le_true _ _ h }
clear_parts (Some b) None h = absurd (cc)
clear_parts None y h = absurd (cc)

pub record IsAboveBy (scale : ℕ) (levels : Levels) (bound : Option ℤ) (reduced : Option Rectangle) (ohms : ℤ) : Type 0 where
  pub number : ℤ
  pub held : Rectangle
  pub is_bound : bound ≡ Some number
  pub is_held : reduced ≡ Some held
  pub most : high_square_sum held < unsigned_abs number * unsigned_abs number
  pub some : 0 < low_square_sum held
  pub is_ohms : ohms ≡ pos (micro_ohms_of scale levels (high_square_sum held))

both_true : (s t : Bool) (v ohms : ℤ) → (if s && t then Some v else None) ≡ Some ohms → (s ≡ true) × (t ≡ true) × (ohms ≡ v)
both_true true true v ohms h = (refl, refl, cc)
both_true true false v ohms h = absurd (cc)
both_true false t v ohms h = absurd (cc)

pub above_parts : (scale : ℕ) (levels : Levels) (bound : Option ℤ) (reduced : Option Rectangle) (ohms : ℤ) → ohms_above_by scale levels bound reduced ≡ Some ohms → IsAboveBy scale levels bound reduced ohms
above_parts scale levels (Some b) (Some y) ohms h =
    let parts = both_true (nat_lt (high_square_sum y) (unsigned_abs b * unsigned_abs b)) (nat_lt 0 (low_square_sum y)) _ ohms h in
    record { number = b; held = y; is_bound = refl; is_held = refl; most = lt_true _ _ parts.0; some = lt_true _ _ parts.1; is_ohms = parts.2 }
above_parts scale levels (Some b) None ohms h = absurd (cc)
above_parts scale levels None y ohms h = absurd (cc)

-- ---- the bounds
size_at_least : (z : ℤ) → z ≤ℤ pos (unsigned_abs z)
size_at_least z = omega (arith, ints)

size_is : (z : ℤ) → pos 0 ≤ℤ z → pos (unsigned_abs z) ≡ z
size_is z h = omega (arith, ints)

floor_sign : (z : ℤ) (k : ℕ) → pos 0 ≤ℤ z → pos 0 ≤ℤ floor_div z k
floor_sign (pos n) k h = omega (arith, ints)
floor_sign (negsuc n) k h = absurd (omega (arith, ints))

above_inverse : (scale : ℕ) (levels : Levels) (number : ℤ) → clear_bound scale levels ≡ Some number → times (inverse_threshold levels) (units scale) ≼ whole (pos (unsigned_abs number))
unfolding clear_bound
above_inverse scale levels number e =
    let v = inverse_threshold levels in
    let is : number ≡ ceil_scaled_of v scale = end_is number _ (sym e) in
    scaled_below v scale (unsigned_abs number) number (rw is (ceil_at_least scale v v (same_value v))) (size_at_least number)

below_inverse : (scale : ℕ) (levels : Levels) (number : ℤ) → above_bound scale levels ≡ Some number → whole (pos (unsigned_abs number)) ≼ times (inverse_threshold levels) (units scale)
unfolding above_bound
below_inverse scale levels number e =
    let v = inverse_threshold levels in
    let is : number ≡ floor_scaled_of v scale = end_is number _ (sym e) in
    let sign : pos 0 ≤ℤ number = rw is (floor_sign _ _ (times_sign v.num (2 ^ scale) (not_negative_out v (inverse_natural levels)))) in
    scaled_above v scale (unsigned_abs number) (rw (size_is number sign, is) (floor_at_most scale v v (same_value v)))
  where
    times_sign : (a : ℤ) (n : ℕ) → pos 0 ≤ℤ a → pos 0 ≤ℤ (a *ℤ pos n)
    times_sign (pos k) n h = omega (arith, ints)
    times_sign (negsuc k) n h = absurd (omega (arith, ints))

-- ---- one order
-- a size that is at least a number above 0 isn't zero
apart_held : (low scale : ℕ) (y : Complex) → 0 < low → whole (pos low) ≼ times (square_size y) (times (units scale) (units scale)) → ¬ (complex_numbers.◌≈◌ y nought)
apart_held low scale y some held e =
    let w = square_size y in
    let W = units scale in
    let l = whole (pos low) in
    let none : w ≈ whole (pos 0) = ratio_ring.next (square_size-along y nought e) square_size-nought in
    let less : NotNegative (opposite l) =
    ratio_order.along (linear ratio_ring (w ∷ W ∷ l ∷ []) (weigh ratio_ring (times W W) none) (search reads depth 40 fits 4000) none_left) ((at_most_is l (times w (times W W))).0 held) in
    let most : pos low ≤ℤ pos 0 = rw num-whole at (opposite_out l less) in
    omega (arith, ints)

inverse_scaled : (scale : ℕ) (levels : Levels) → NotNegative (times (inverse_threshold levels) (units scale))
inverse_scaled scale levels = ratio_order.product (inverse_natural levels) (natural (2 ^ scale))

cleared_at : (scale : ℕ) (levels : Levels) (network : Network) (h : Order) (node : ℕ) (number : ℤ) (held : Rectangle) → AreScanLevels levels → HoldsReduced scale network h node held
    → clear_bound scale levels ≡ Some number → unsigned_abs number * unsigned_abs number ≤ low_square_sum held → IsClearedAt network h node (threshold_at levels h)
cleared_at scale levels network h node number held in_range exact bound least =
    let n = unsigned_abs number in
    let low = low_square_sum held in
    cleared network h node (threshold_at levels h) exact.y exact.reduced
    (clear_by (threshold_at levels h) (inverse_threshold levels) (units scale) (reciprocal (units scale)) (whole (pos n)) (whole (pos low)) (square_size exact.y)
    (threshold_inverse levels h in_range) (apart_natural (2 ^ scale) (pow_pos scale)) (inverse_scaled scale levels)
    (above_inverse scale levels number bound) (square_below n low least) (held_above scale low exact.y (low_square_bound scale held exact.y exact.held)))

-- whole micro-orders of a box of one order
pub micro_is_order : (from at : ℕ) → IsTestable from at at → IsOrder (micro at)
micro_is_order from at h = record { n = omega (arith, h.above); d = omega arith }

pub micro_inside : (at : ℕ) → LiesIn (micro at) (orders at at)
micro_inside at = record { low = omega arith; high = omega arith }

module _ (scale : ℕ) (levels : Levels) (network : Network) (node at : ℕ) (number : ℤ) (held : Rectangle) (in_range : AreScanLevels levels)
    (exact : HoldsReduced scale network (micro at) node held) (bound : above_bound scale levels ≡ Some number)
    (most : high_square_sum held < unsigned_abs number * unsigned_abs number) (some : 0 < low_square_sum held) where
  reduced_apart : ¬ (complex_numbers.◌≈◌ exact.y nought)
  reduced_apart = apart_held (low_square_sum held) scale exact.y some (held_above scale (low_square_sum held) exact.y (low_square_bound scale held exact.y exact.held))

  reduced_below : times (square_size exact.y) (times (units scale) (units scale)) ≼ whole (pos (high_square_sum held))
  reduced_below = held_below scale (high_square_sum held) exact.y (high_square_bound scale held exact.y exact.held)

  peak_there : IsPeakAt network (micro at) node (threshold_at levels (micro at))
  peak_there =
      let T = threshold_at levels (micro at) in
      let high = high_square_sum held in
      let n = unsigned_abs number in
      let e = times_inverse exact.y reduced_apart in
      record {
        Z = inverse exact.y;
        exists = reduced_impedance network (micro at) node exact.y (inverse exact.y) exact.reduced reduced_apart e;
        above = above_by T (inverse exact.y) exact.y e
            (less_unless _ _ (not_clear_by T (inverse_threshold levels) (units scale) (whole (pos n)) (whole (pos high)) (square_size exact.y)
            (threshold_inverse levels (micro at) in_range) (inverse_scaled scale levels) (natural n)
            (below_inverse scale levels number bound) (square_over n high most) reduced_below));
      }

  ohms_there : times (millionths (pos (micro_ohms_of scale levels (high_square_sum held)))) (millionths (pos (micro_ohms_of scale levels (high_square_sum held))))
      ≼ square_size (in_ohms (millionths levels.kv) (millionths levels.mva) (inverse exact.y))
  ohms_there =
      let high = high_square_sum held in
      let root = root_ceil_of high in
      let m = micro_ohms_of scale levels high in
      let A = millionths (pos m) in
      let V = millionths levels.kv in
      let S = millionths levels.mva in
      let v = reciprocal S in
      let R = whole (pos root) in
      let Z = inverse exact.y in
      let e = times_inverse exact.y reduced_apart in
      let positive = root_ceil_positive high (high_positive held (low_square_sum held) high refl refl some) in
      let scaled : times A R ≼ times (times (times V V) v) (units scale) =
      ohms_scaled A (whole (pos m)) millionth R V (whole levels.kv) S (whole levels.mva) v (units scale)
      (millionths_are (pos m)) (millionths_are levels.kv) (millionths_are levels.mva) (power_apart levels in_range) (power_natural levels in_range) (ohms_below scale levels high in_range) in
      at_most_along (times A A) _ _ (ohms_square V S Z)
      (ohms_by A R (reciprocal R) (times (times V V) v) (units scale) (square_size Z) (square_size exact.y) (whole (pos high))
      (apart_natural root positive) (sizes_of_inverse Z exact.y e) (ratio_order.product (natural_millionths m) (natural root)) (square_size-not_negative Z)
      scaled (within_square root high (root_ceil_is high).square) reduced_below)
    where
      natural_millionths : (n : ℕ) → NotNegative (millionths (pos n))
      natural_millionths n = record { value = n; is = refl }

  peak_at : (from : ℕ) → IsTestable from at at → IsPeak network node (flat (in_ohms_of levels.threshold)) (millionths levels.kv) (millionths levels.mva) (orders at at) at (micro_ohms_of scale levels (high_square_sum held))
  unfolding peak_there
  peak_at from testable = record { is_order = micro_is_order from at testable; inside = micro_inside at; there = peak_there; ohms = ohms_there }

pub test_is_sound : EliminationTestIsSound
unfolding elimination_test
test_is_sound scale from threshold kv mva levels reduced network node of reduces = record {
  clear = λ lo hi testable passed h is_order inside.
      let parts = clear_parts (clear_bound scale (levels lo hi)) (reduced lo hi) passed in
      clear_with from threshold kv mva levels of network node lo hi h testable is_order inside
      (cleared_at scale (levels lo hi) network h node parts.number parts.held (of.in_range lo hi testable) (reduces.at_each lo hi parts.held h testable parts.is_held is_order inside) parts.is_bound parts.least);
  above = λ at ohms testable passed.
      let parts = above_parts scale (levels at at) (above_bound scale (levels at at)) (reduced at at) ohms passed in
      let exact = reduces.at_each at at parts.held (micro at) testable parts.is_held (micro_is_order from at testable) (micro_inside at) in
      subst (λ o. IsTruePeak (scanned_by threshold kv mva network node) at at at o) (sym parts.is_ohms)
      (peak_with from threshold kv mva levels of network node at _ testable
      (peak_at scale (levels at at) network node at parts.number parts.held (of.in_range at at testable) exact parts.is_bound parts.most parts.some from testable));
}
