-- Sizes of the numbers of an interval test.
use Rattle.std.proofs.Common.{◌≡◌, ℕ, zero, suc, ◌+◌, ◌*◌, ◌-◌, ◌/◌, ◌^◌, ◌≤◌, ◌<◌, ℤ, pos, negsuc, ◌*ℤ◌, ◌≤ℤ◌, unsigned_abs, Bool, true, false, nat_le, refl, ap, ◌∙◌, to_z, of_z, FitsSigned, arith}
use Rattle.std.specs.Int.{w128}
use Rattle.std.specs.Prelude.{if◌then◌else◌, min, max}
use Rattle.std.proofs.Math.Nat.{div-le_self}
use Rattle.std.proofs.lemmas.Bool.Decides.{nat_tests}
use Rattle.std.proofs.lemmas.Int.{ints, to_z-of_z}
use Rattle.std.proofs.lemmas.Nat.{mul-le, pow_pos}
use Rattle.exact_algebra.specs.Ratio.{den}
use Rattle.exact_fraction.specs.Root.{root_ceil_of}
use Rattle.complex_interval.specs.Ends.{Ends, AreEnds, zero_between, mig_of, mag_of}
use Rattle.complex_interval.specs.Rectangles.{Rectangle, low_square_sum, high_square_sum}
use Rattle.exact_fraction.specs.Fraction.{ratio_of}
use Rattle.exact_fraction.specs.declared.fraction.Fraction.{Fraction}
use Rattle.exact_fraction.proofs.Roots.{root_ceil_is, root_ceil_only}
use Rattle.band_subdivision.specs.IntervalTest.{inverse_threshold, micro_ohms_of}
use Rattle.band_subdivision.specs.InverseTest.{unit_threshold, root_floor_of, micro_ohms_from}
use Rattle.band_subdivision.specs.Levels.{Levels, AreScanLevels, IsKept, levels_in}
use Rattle.band_subdivision.specs.declared.scan_levels.ScanLevels.{ScanLevels}

pub ohms_fit : (k u n : ℕ) → k ≤ 2 ^ 31 → u ≤ 2 ^ 48 → k * k * u / n ≤ 2 ^ 110
ohms_fit k u n fits small =
    let square : k * k ≤ 2 ^ 31 * 2 ^ 31 = mul-le _ _ _ _ fits fits in
    let whole : k * k * u ≤ 2 ^ 31 * 2 ^ 31 * 2 ^ 48 = mul-le _ _ _ _ square small in
    let part = div-le_self (k * k * u) n in
    omega arith

-- the numbers of kept levels
some_size : (z : ℤ) (n : ℕ) → pos (suc n) ≤ℤ z → 1 ≤ unsigned_abs z
some_size z n h = omega (arith, ints)

size_at_most : (z : ℤ) (m n : ℕ) → pos m ≤ℤ z → z ≤ℤ pos n → unsigned_abs z ≤ n
size_at_most z m n low high = omega (arith, ints)

abbrev volts : ScanLevels → ℕ
volts kept = unsigned_abs kept.kv * unsigned_abs kept.kv * unsigned_abs kept.threshold.den

abbrev power : ScanLevels → ℕ
power kept = unsigned_abs kept.threshold.num * unsigned_abs kept.mva

-- the voltage is at most 2^31 millionths of a kV in size
pub kv_fits : (levels : Levels) → AreScanLevels levels → unsigned_abs levels.kv ≤ 2 ^ 31
kv_fits levels h = let fits = size_at_most levels.kv _ _ h.kv.0 h.kv.1 in omega arith

module _ (kept : ScanLevels) (h : IsKept kept) where
  pub parts_some : 1 ≤ unsigned_abs kept.threshold.den
  parts_some = some_size kept.threshold.den 0 kept.threshold.den_positive

  pub volts_some : 0 < volts kept
  volts_some =
      let some = some_size kept.kv _ h.levels.kv.0 in
      omega (arith, mul-le 1 1 _ _ (mul-le 1 1 _ _ some some) parts_some)

  pub volts_fit : volts kept < 2 ^ 120
  volts_fit =
      let fits = kv_fits (levels_in kept) h.levels in
      let squares : volts kept ≤ 2 ^ 31 * 2 ^ 31 * 10 ^ 8 = mul-le _ _ _ _ (mul-le _ _ _ _ fits fits) h.parts in
      omega arith

  pub threshold_fits : unsigned_abs kept.threshold.num ≤ 10 ^ 20
  threshold_fits = size_at_most kept.threshold.num 1 _ h.levels.some h.most

  pub power_some : 0 < power kept
  power_some = omega (arith, mul-le 1 1 _ _ (some_size kept.threshold.num 0 h.levels.some) (some_size kept.mva _ h.levels.mva.0))

  pub power_fits : power kept < 2 ^ 120
  power_fits =
      let most : unsigned_abs kept.mva ≤ 10 ^ 10 = size_at_most kept.mva _ _ h.levels.mva.0 h.levels.mva.1 in
      let product : power kept ≤ 10 ^ 20 * 10 ^ 10 = mul-le _ _ _ _ threshold_fits most in
      omega arith

  square_is : (z : ℤ) → z *ℤ z ≡ pos (unsigned_abs z * unsigned_abs z)
  square_is (pos n) = refl
  square_is (negsuc n) = refl

  den_is : den (ratio_of kept.threshold) ≡ pos (unsigned_abs kept.threshold.den)
  unfolding den
  den_is = ap pos (let some = parts_some in let e : suc (unsigned_abs kept.threshold.den - 1) ≡ unsigned_abs kept.threshold.den = omega (arith, some) in e)

  volts_are : kept.kv *ℤ kept.kv *ℤ den (ratio_of kept.threshold) ≡ pos (volts kept)
  volts_are = rw (den_is, square_is kept.kv) refl

  power_is : kept.threshold.num *ℤ kept.mva ≡ pos (power kept)
  power_is = signs kept.threshold.num kept.mva (natural kept.threshold.num 0 h.levels.some) (natural kept.mva _ h.levels.mva.0)
    where
      natural : (z : ℤ) (n : ℕ) → pos (suc n) ≤ℤ z → pos 0 ≤ℤ z
      natural z n h = omega (arith, ints)

      signs : (a b : ℤ) → pos 0 ≤ℤ a → pos 0 ≤ℤ b → a *ℤ b ≡ pos (unsigned_abs a * unsigned_abs b)
      signs (pos a) (pos b) p q = refl
      signs (pos a) (negsuc b) p q = absurd (omega (arith, ints))
      signs (negsuc a) b p q = absurd (omega (arith, ints))

  -- both thresholds per unit by their two numbers
  pub inverse_is : (x : Fraction) → x.num ≡ pos (volts kept) → x.den ≡ pos (power kept) → ratio_of x ≡ inverse_threshold (levels_in kept)
  unfolding inverse_threshold
  inverse_is x top below = rw (top, below, volts_are, power_is) refl

  pub unit_is : (x : Fraction) → x.num ≡ pos (power kept) → x.den ≡ pos (volts kept) → ratio_of x ≡ unit_threshold (levels_in kept)
  unfolding unit_threshold
  unit_is x top below = rw (top, below, volts_are, power_is) refl

-- a small number, passed on as a signed one
pub passed : (z : ℤ) (n : ℕ) → z ≡ pos n → n ≤ 2 ^ 120 → to_z w128 (of_z w128 z) ≡ pos n
passed z n e small = let fits : FitsSigned w128 z = omega (arith, ints, e) in to_z-of_z w128 z fits ∙ e

le_true : (m n : ℕ) → nat_le m n ≡ true → m ≤ n
le_true m n h = grind (arith, nat_tests)

le_false : (m n : ℕ) → nat_le m n ≡ false → n < m
le_false m n h = grind (arith, nat_tests)

-- the least square of a box is at most the greatest one
mig_at_most : (a : Ends) → mig_of a ≤ mag_of a
mig_at_most a = by (zero_between a)
  where
    by : (t : Bool) → (if t then 0 else min (unsigned_abs a.low) (unsigned_abs a.high)) ≤ max (unsigned_abs a.low) (unsigned_abs a.high)
    by true = omega arith
    by false = omega arith

pub low_at_most_high : (y : Rectangle) → low_square_sum y ≤ high_square_sum y
low_at_most_high y =
    omega (arith, mul-le _ _ _ _ (mig_at_most y.re) (mig_at_most y.re), mul-le _ _ _ _ (mig_at_most y.im) (mig_at_most y.im))

pub high_positive : (y : Rectangle) (low high : ℕ) → low ≡ low_square_sum y → high ≡ high_square_sum y → 0 < low → 0 < high
high_positive y low high el eh some = let h = low_at_most_high y in omega (arith, h, el, eh)

-- the micro-ohms by the root's own properties
pub ohms_are : (scale : ℕ) (levels : Levels) (high k m u r : ℕ) → k ≡ unsigned_abs levels.kv → m ≡ unsigned_abs levels.mva → u ≡ 2 ^ scale
    → high ≤ r * r → ((n : ℕ) → high ≤ n * n → r ≤ n) → k * k * u / (m * r) ≡ micro_ohms_of scale levels high
unfolding micro_ohms_of
ohms_are scale levels high k m u r ek em eu square least = rw (ek, em, eu, root_ceil_only high r square least)

-- a root rounded down, by its own properties
pub root_floor_only : (n r : ℕ) → r * r ≤ n → ((m : ℕ) → m * m ≤ n → m ≤ r) → r ≡ root_floor_of n
unfolding root_floor_of
root_floor_only n r square greatest =
    let e : suc r ≡ root_ceil_of (suc n) = root_ceil_only (suc n) (suc r) over (λ m h. least m h) in
    omega (arith, e)
  where
    over : suc n ≤ suc r * suc r
    over = by (nat_le (suc n) (suc r * suc r)) refl
      where
        by : (t : Bool) → nat_le (suc n) (suc r * suc r) ≡ t → suc n ≤ suc r * suc r
        by true is = le_true _ _ is
        by false is = let below : suc r * suc r < suc n = le_false _ _ is in let more : suc r ≤ r = greatest (suc r) (omega (arith, below)) in absurd (omega (arith, more))

    least : (m : ℕ) → suc n ≤ m * m → suc r ≤ m
    least m h = by (nat_le (suc r) m) refl
      where
        by : (t : Bool) → nat_le (suc r) m ≡ t → suc r ≤ m
        by true is = le_true _ _ is
        by false is = let below : m < suc r = le_false _ _ is in let low : m ≤ r = omega (arith, below) in let small : m * m ≤ r * r = mul-le m m r r low low in absurd (omega (arith, small, square, h))

-- its square is at most the number
pub root_floor_square : (n : ℕ) → root_floor_of n * root_floor_of n ≤ n
unfolding root_floor_of
root_floor_square n = below (root_ceil_of (suc n)) (root_ceil_is (suc n)).least
  where
    below : (r : ℕ) → ((m : ℕ) → suc n ≤ m * m → r ≤ m) → (r - 1) * (r - 1) ≤ n
    below zero least = omega arith
    below (suc r) least = let e : suc r - 1 ≡ r = omega arith in rw e (by (nat_le (suc n) (r * r)) refl)
      where
        by : (t : Bool) → nat_le (suc n) (r * r) ≡ t → r * r ≤ n
        by true is = let more : suc r ≤ r = least r (le_true _ _ is) in absurd (omega (arith, more))
        by false is = let small : r * r < suc n = le_false _ _ is in omega (arith, small)

-- the square of a point of ends
pub square_fits : (a b : ℕ) → a ≤ 2 ^ 62 → b ≤ 2 ^ 62 → a * a + b * b < 2 ^ 126
square_fits a b p q =
    let first : a * a ≤ 2 ^ 62 * 2 ^ 62 = mul-le _ _ _ _ p p in
    let second : b * b ≤ 2 ^ 62 * 2 ^ 62 = mul-le _ _ _ _ q q in
    omega (arith, first, second)

-- and so are those of the sizes of a rectangle
low_fits_by : (a : Ends) → unsigned_abs a.low ≤ 2 ^ 62 → mig_of a ≤ 2 ^ 62
low_fits_by a p = by (zero_between a) (unsigned_abs a.low) (unsigned_abs a.high) p
  where
    by : (t : Bool) (l h : ℕ) → l ≤ 2 ^ 62 → (if t then 0 else min l h) ≤ 2 ^ 62
    by true l h p = omega arith
    by false l h p = omega (arith, p)

pub low_square_fits : (a : Rectangle) → unsigned_abs a.re.low ≤ 2 ^ 62 → unsigned_abs a.im.low ≤ 2 ^ 62 → low_square_sum a < 2 ^ 126
low_square_fits a p q = square_fits (mig_of a.re) (mig_of a.im) (low_fits_by a.re p) (low_fits_by a.im q)

pub low_fits : (a : Rectangle) → AreEnds a.re → AreEnds a.im → low_square_sum a < 2 ^ 126
low_fits a p q = low_square_fits a p.low_fits q.low_fits

mag_fits : (a : Ends) → AreEnds a → mag_of a ≤ 2 ^ 62
mag_fits a h = let p = h.low_fits in let q = h.high_fits in omega (arith, p, q)

pub high_fits : (a : Rectangle) → AreEnds a.re → AreEnds a.im → high_square_sum a < 2 ^ 126
high_fits a p q = square_fits (mag_of a.re) (mag_of a.im) (mag_fits a.re p) (mag_fits a.im q)

-- it is at most 2^63
pub root_fits : (r n : ℕ) → r * r ≤ n → n < 2 ^ 126 → r ≤ 2 ^ 63
root_fits r n square fits = by (nat_le r (2 ^ 63)) refl
  where
    by : (t : Bool) → nat_le r (2 ^ 63) ≡ t → r ≤ 2 ^ 63
    by true is = le_true _ _ is
    by false is = let above : 2 ^ 63 < r = le_false _ _ is in let up : 2 ^ 63 ≤ r = omega (arith, above) in let great : 2 ^ 63 * 2 ^ 63 ≤ r * r = mul-le (2 ^ 63) (2 ^ 63) r r up up in absurd (omega (arith, great, square, fits))

-- the micro-ohms of a size of at most 2^63 units are at most 2^120
pub size_fits : (n k u m : ℕ) → n ≤ 2 ^ 63 → k ≤ 2 ^ 31 → 1000 ≤ m → 1 ≤ u → n * (k * k) / (u * m) ≤ 2 ^ 120
size_fits n k u m size fits some unit =
    let square : k * k ≤ 2 ^ 31 * 2 ^ 31 = mul-le _ _ _ _ fits fits in
    let whole : n * (k * k) ≤ 2 ^ 63 * (2 ^ 31 * 2 ^ 31) = mul-le _ _ _ _ size square in
    let below : 1 * 1000 ≤ u * m = mul-le _ _ _ _ unit some in
    let q = n * (k * k) / (u * m) in
    let part : q * (u * m) ≤ n * (k * k) = omega (arith, below) in
    let same : q ≤ q = omega arith in
    let least : q * (1 * 1000) ≤ q * (u * m) = mul-le q (1 * 1000) q (u * m) same below in
    omega (arith, part, least, whole)

pub from_size : (scale : ℕ) (levels : Levels) (size : ℕ) → AreScanLevels levels → size ≤ 2 ^ 63 → micro_ohms_from scale levels size ≤ 2 ^ 120
unfolding micro_ohms_from
from_size scale levels size h fits = size_fits size (unsigned_abs levels.kv) (2 ^ scale) (unsigned_abs levels.mva) fits (kv_fits levels h) (power_least levels.mva h.mva.0) (pow_pos scale)
  where
    power_least : (z : ℤ) → pos 1000 ≤ℤ z → 1000 ≤ unsigned_abs z
    power_least z h = omega (arith, ints)

-- what divides them is above 0
pub below_some : (scale : ℕ) (levels : Levels) → AreScanLevels levels → 0 < 2 ^ scale * unsigned_abs levels.mva
below_some scale levels h =
    let some = some_size levels.mva _ h.mva.0 in
    let unit : 1 ≤ 2 ^ scale = pow_pos scale in
    let both : 1 * 1 ≤ 2 ^ scale * unsigned_abs levels.mva = mul-le 1 1 _ _ unit some in
    omega (arith, both)

pub micro_ohms_from_is : (scale : ℕ) (levels : Levels) (size k m u : ℕ) → k ≡ unsigned_abs levels.kv → m ≡ unsigned_abs levels.mva → u ≡ 2 ^ scale → size * (k * k) / (u * m) ≡ micro_ohms_from scale levels size
unfolding micro_ohms_from
micro_ohms_from_is scale levels size k m u ek em eu = rw (ek, em, eu) refl
