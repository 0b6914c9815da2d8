-- A product with the exact 1 is the other factor.
use Rattle.std.proofs.Common.{◌≡◌, ℕ, ◌*◌, ◌^◌, ◌≤◌, ◌<◌, ap, ap₂, ◌∙◌, sym, arith, refl, Bool, true, false, ℤ, pos, neg_ℤ, ◌≤ℤ◌, ◌<ℤ◌}
use Rattle.std.specs.Prelude.{Some, unsigned_abs, ◌*ℤ◌, ◌+ℤ◌, ◌&&◌}
use Rattle.std.specs.Ordering.{int_eq}
use Rattle.std.specs.Int.{int_min, int_max}
use Rattle.std.proofs.lemmas.Bool.Decides.{nat_tests}
use Rattle.std.proofs.lemmas.Int.{ints, int_min_is, int_max_is}
use Rattle.std.proofs.lemmas.Nat.{pow_pos}
use Rattle.exact_algebra.specs.Floor.{floor_div, ceil_div}
use Rattle.exact_algebra.proofs.Differences.{neg-mul}
use Rattle.exact_algebra.proofs.WholeOrder.{floor_div-is, mul-le_pos}
use Rattle.complex_interval.specs.Ends.{Ends, AreEnds, is_end, ends_in_range, mul_ends, least_of_four, greatest_of_four}

least_of : (x y : ℤ) → x ≤ℤ y → int_min x y ≡ x
least_of x y h = let e = int_min_is x y in omega (arith, ints, e)

greatest_of : (x y : ℤ) → x ≤ℤ y → int_max x y ≡ y
greatest_of x y h = let e = int_max_is x y in omega (arith, ints, e)

least_is : (x y : ℤ) → x ≤ℤ y → int_min (int_min x x) (int_min y y) ≡ x
least_is x y h = ap₂ int_min (least_of x x (omega (arith, ints))) (least_of y y (omega (arith, ints))) ∙ least_of x y h

greatest_is : (x y : ℤ) → x ≤ℤ y → int_max (int_max x x) (int_max y y) ≡ y
greatest_is x y h = ap₂ int_max (greatest_of x x (omega (arith, ints))) (greatest_of y y (omega (arith, ints))) ∙ greatest_of x y h

down_is : (n : ℕ) → 0 < n → (l low : ℤ) → low ≡ l *ℤ pos n → floor_div low n ≡ l
down_is n some l low e = floor_div-is l low n some (omega (arith, ints, e)) (omega (arith, ints, e))

up_is : (n : ℕ) → 0 < n → (h high : ℤ) → high ≡ h *ℤ pos n → ceil_div high n ≡ h
up_is n some h high e =
    let turned = neg-mul h (pos n) in
    let up : floor_div (neg_ℤ high) n ≡ neg_ℤ h = floor_div-is (neg_ℤ h) (neg_ℤ high) n some (omega (arith, ints, e, turned)) (omega (arith, ints, e, turned)) in
    omega (arith, ints, up)

is_end-fits : (z : ℤ) → unsigned_abs z ≤ 2 ^ 62 → is_end z ≡ true
is_end-fits z b = grind (arith, nat_tests)

pub times_one : (s : ℕ) (a : Ends) → AreEnds a → mul_ends s a (record { low = pos (2 ^ s); high = pos (2 ^ s) }) ≡ Some a
times_one s a fits =
    let n = 2 ^ s in
    let some = pow_pos s in
    let order = mul-le_pos (pos n) a.low a.high (omega (arith, ints)) fits.ordered in
    let down = down_is n some a.low _ (least_is (a.low *ℤ pos n) (a.high *ℤ pos n) order) in
    let up = up_is n some a.high _ (greatest_is (a.low *ℤ pos n) (a.high *ℤ pos n) order) in
    ap₂ ends_in_range down up ∙ rw (is_end-fits a.low fits.low_fits, is_end-fits a.high fits.high_fits)

both_true : (t u : Bool) → (t && u) ≡ true → (t ≡ true) × (u ≡ true)
both_true t u e = grind arith

same : (x y : ℤ) → int_eq x y ≡ true → x ≡ y
same x y e = grind (arith, ints)

-- a product by an interval that is tested for being the exact 1
pub times_tested_one : (s : ℕ) (a b : Ends) → AreEnds a → (int_eq b.low (pos (2 ^ s)) && int_eq b.high (pos (2 ^ s))) ≡ true → Some a ≡ mul_ends s a b
times_tested_one s a b fits e =
    let (low, high) = both_true (int_eq b.low (pos (2 ^ s))) (int_eq b.high (pos (2 ^ s))) e in
    rw (same b.low (pos (2 ^ s)) low, same b.high (pos (2 ^ s)) high) (sym (times_one s a fits))

-- a product of two numbers, by the one product
pub times_points : (s : ℕ) (a b : Ends) → a.low ≡ a.high → b.low ≡ b.high → ends_in_range (floor_div (a.low *ℤ b.low) (2 ^ s)) (ceil_div (a.low *ℤ b.low) (2 ^ s)) ≡ mul_ends s a b
times_points s a b p q =
    let x = a.low *ℤ b.low in
    rw (sym p, sym q) (sym (ap₂ (λ v w. ends_in_range (floor_div v (2 ^ s)) (ceil_div w (2 ^ s))) (least_is x x (omega (arith, ints))) (greatest_is x x (omega (arith, ints)))))

pub times_tested_points : (s : ℕ) (a b : Ends) → int_eq a.low a.high ≡ true → int_eq b.low b.high ≡ true → ends_in_range (floor_div (a.low *ℤ b.low) (2 ^ s)) (ceil_div (a.low *ℤ b.low) (2 ^ s)) ≡ mul_ends s a b
times_tested_points s a b p q = times_points s a b (same a.low a.high p) (same b.low b.high q)
