-- The ends of the exact 1 and of a box of orders.
use Rattle.std.proofs.Common.{◌≡◌, ℕ, suc, ◌-◌, ◌*◌, ◌^◌, ◌≤◌, ◌<◌, ap, ap₂, ◌∙◌, arith, refl, Bool, true, false, Option, ℤ, pos, neg_ℤ, ◌≤ℤ◌, ◌<ℤ◌}
use Rattle.std.specs.Prelude.{Some, unsigned_abs, cond, int_lt}
use Rattle.std.specs.Int.{int_min, int_max}
use Rattle.std.proofs.Math.Nat.{pow-le-pow_right, mul-le-mul_left}
use Rattle.std.proofs.lemmas.Bool.Decides.{nat_tests}
use Rattle.std.proofs.lemmas.Int.{ints}
use Rattle.std.proofs.lemmas.Nat.{pow_pos}
use Rattle.exact_algebra.specs.Floor.{floor_div, ceil_div}
use Rattle.exact_algebra.specs.Ratio.{Ratio, over, den, whole, ◌≼◌}
use Rattle.exact_algebra.proofs.Differences.{neg-mul}
use Rattle.exact_algebra.proofs.WholeOrder.{floor_div_le, floor_div_greatest, floor_div-is, ceil_div_least, ceil_div_ge}
use Rattle.complex_interval.specs.Ends.{Ends, Encloses, is_end, ends_in_range, range_ends, mul_ends}
use Rattle.complex_interval.proofs.Ranges.{floor_at_most, ceil_at_least}
use Rattle.network_theory.specs.Order.{Order, IsOrder, fraction}
use Rattle.admittance_box.specs.Exact.{zero_ends, one_ends}
use Rattle.admittance_box.specs.Orders.{order_ends, HoldsOrders}

-- a number from 0 to 2^62 is an end
is_end-small : (z : ℤ) → pos 0 ≤ℤ z → z ≤ℤ pos (2 ^ 62) → is_end z ≡ true
is_end-small z h k =
    let b : unsigned_abs z ≤ 2 ^ 62 = omega (arith, ints) in
    grind (arith, nat_tests)

in_range-small : (low high : ℤ) → pos 0 ≤ℤ low → low ≤ℤ pos (2 ^ 62) → pos 0 ≤ℤ high → high ≤ℤ pos (2 ^ 62) → ends_in_range low high ≡ Some (record { low = low; high = high })
in_range-small low high a b c d = rw (is_end-small low a b, is_end-small high c d)

pub one_encloses : (s : ℕ) → Encloses s (one_ends s) (whole (pos 1))
unfolding whole den
one_encloses s = record { from = omega (arith, ints); to = omega (arith, ints) }

pub zero_encloses : (s : ℕ) → Encloses s zero_ends (whole (pos 0))
unfolding whole den
zero_encloses s = record { from = omega (arith, ints); to = omega (arith, ints) }

-- at a scale of at most 48 a unit is in range
unit_small : (s : ℕ) → s ≤ 48 → 2 ^ s ≤ 2 ^ 48
unit_small s h = pow-le-pow_right (omega arith) h

abbrev range_of_one : ℕ → Option Ends
range_of_one n = ends_in_range (floor_div (pos (1 * n)) 1) (ceil_div (pos (1 * n)) 1)

pub one_ends-is : (s : ℕ) → s ≤ 48 → range_ends s (over (pos 1) 1) (over (pos 1) 1) ≡ Some (one_ends s)
one_ends-is s h = let n = unit_small s h in one_is (2 ^ s) (omega arith)
  where
    one_is : (n : ℕ) → n ≤ 2 ^ 62 → range_of_one n ≡ Some (record { low = pos n; high = pos n })
    one_is n k =
        let low : floor_div (pos (1 * n)) 1 ≡ pos n = ap pos (omega arith) in
        let down : floor_div (neg_ℤ (pos (1 * n))) 1 ≡ neg_ℤ (pos n) = floor_div-is (neg_ℤ (pos n)) (neg_ℤ (pos (1 * n))) 1 (omega arith) (omega (arith, ints)) (omega (arith, ints)) in
        let high : ceil_div (pos (1 * n)) 1 ≡ pos n = omega (arith, ints, down) in
        ap₂ ends_in_range low high ∙ in_range-small (pos n) (pos n) (omega (arith, ints)) (omega (arith, ints)) (omega (arith, ints)) (omega (arith, ints))

-- and so is its square, which is the unit again
square_of_one : (n : ℕ) → 1 ≤ n → n ≤ 2 ^ 62 → (low high : ℤ) → low ≡ pos (n * n) → high ≡ pos (n * n) → ends_in_range (floor_div low n) (ceil_div high n) ≡ Some (record { low = pos n; high = pos n })
square_of_one n one k low high p q =
    let down : floor_div low n ≡ pos n = floor_div-is (pos n) low n one (omega (arith, ints, p)) (omega (arith, ints, p)) in
    let turned = neg-mul (pos n) (pos n) in
    let up : floor_div (neg_ℤ high) n ≡ neg_ℤ (pos n) = floor_div-is (neg_ℤ (pos n)) (neg_ℤ high) n one (omega (arith, ints, q, turned)) (omega (arith, ints, q, turned)) in
    let above : ceil_div high n ≡ pos n = omega (arith, ints, up) in
    ap₂ ends_in_range down above ∙ in_range-small (pos n) (pos n) (omega (arith, ints)) (omega (arith, ints)) (omega (arith, ints)) (omega (arith, ints))

pub one_times_one : (s : ℕ) → s ≤ 48 → mul_ends s (one_ends s) (one_ends s) ≡ Some (one_ends s)
one_times_one s h =
    let n = unit_small s h in
    let some = pow_pos s in
    square_of_one (2 ^ s) (omega arith) (omega arith) _ _ (ap₂ int_min (least (pos (2 ^ s * 2 ^ s))) (least (pos (2 ^ s * 2 ^ s))) ∙ least (pos (2 ^ s * 2 ^ s)))
    (ap₂ int_max (greatest (pos (2 ^ s * 2 ^ s))) (greatest (pos (2 ^ s * 2 ^ s))) ∙ greatest (pos (2 ^ s * 2 ^ s)))
  where
    either : (t : Bool) (x : ℤ) → cond t x x ≡ x
    either true x = refl
    either false x = refl

    least : (x : ℤ) → int_min x x ≡ x
    least x = either (int_lt x x) x

    greatest : (x : ℤ) → int_max x x ≡ x
    greatest x = either (int_lt x x) x

-- the order as a fraction is above 0
pub fraction_above : (h : Order) → IsOrder h → pos 0 <ℤ (fraction h).num
fraction_above h o = let n = o.n in omega (arith, ints)

-- lo/10^6 and hi/10^6 are at most and at least each order of the box
lowest_order : (lo : ℕ) (h : Order) → IsOrder h → lo * h.d ≤ 10 ^ 6 * h.n → over (pos lo) 1000000 ≼ fraction h
unfolding den
lowest_order lo h o k = let e : suc (h.d - 1) ≡ h.d = let d = o.d in omega arith in record { cross = rw e (omega (arith, ints)) }

highest_order : (hi : ℕ) (h : Order) → IsOrder h → 10 ^ 6 * h.n ≤ hi * h.d → fraction h ≼ over (pos hi) 1000000
unfolding den
highest_order hi h o k = let e : suc (h.d - 1) ≡ h.d = let d = o.d in omega arith in record { cross = rw e (omega (arith, ints)) }

pub order_encloses : (s lo hi : ℕ) → HoldsOrders s lo hi (order_ends s lo hi)
order_encloses s lo hi h o l = record {
  from = floor_at_most s (over (pos lo) 1000000) (fraction h) (lowest_order lo h o l.low);
  to = ceil_at_least s (over (pos hi) 1000000) (fraction h) (highest_order hi h o l.high);
}

pub box_ordered : (lo hi : ℕ) → lo ≤ hi → over (pos lo) 1000000 ≼ over (pos hi) 1000000
unfolding den
box_ordered lo hi h = record { cross = omega (arith, ints) }

-- the scaled order of a box is below 2^32·2^48
scaled_small : (s n : ℕ) → s ≤ 48 → n < 2 ^ 32 → n * 2 ^ s ≤ 2 ^ 62 * 1000000
scaled_small s n h k = let more = mul-le-mul_left n (unit_small s h) in omega arith

pub order_ends-is : (s lo hi : ℕ) → s ≤ 48 → lo ≤ hi → hi < 2 ^ 32 → range_ends s (over (pos lo) 1000000) (over (pos hi) 1000000) ≡ Some (order_ends s lo hi)
order_ends-is s lo hi h o k =
    let low = floor_div (pos (lo * 2 ^ s)) 1000000 in
    let high = ceil_div (pos (hi * 2 ^ s)) 1000000 in
    let small_lo = scaled_small s lo h (omega arith) in
    let small_hi = scaled_small s hi h k in
    let low_from : pos 0 ≤ℤ low = omega (arith, ints) in
    let down = floor_div_le (pos (lo * 2 ^ s)) 1000000 (omega arith) in
    let low_to : low ≤ℤ pos (2 ^ 62) = omega (arith, ints) in
    let up = ceil_div_ge (pos (hi * 2 ^ s)) 1000000 (omega arith) in
    let high_from : pos 0 ≤ℤ high = omega (arith, ints) in
    let high_to : high ≤ℤ pos (2 ^ 62) = ceil_div_least (pos (2 ^ 62)) (pos (hi * 2 ^ s)) 1000000 (omega arith) (omega (arith, ints)) in
    in_range-small low high low_from low_to high_from high_to

-- the low end of an order of one unit or more is above 0
pub order_low_above : (s lo hi : ℕ) → 10 ^ 6 ≤ lo * 2 ^ s → pos 0 <ℤ (order_ends s lo hi).low
order_low_above s lo hi h =
    let one = floor_div_greatest (pos 1) (pos (lo * 2 ^ s)) 1000000 (omega arith) (omega (arith, ints)) in
    omega (arith, ints)

-- the range that the two fractions of a box have
pub order_range-is : (s lo hi : ℕ) (a b : Ratio) → s ≤ 48 → lo ≤ hi → hi < 2 ^ 32 → a ≡ over (pos lo) 1000000 → b ≡ over (pos hi) 1000000 → range_ends s a b ≡ Some (order_ends s lo hi)
order_range-is s lo hi a b h o k p q = ap₂ (range_ends s) p q ∙ order_ends-is s lo hi h o k
