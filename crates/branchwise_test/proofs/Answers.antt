-- What an estimate says of a threshold.
use Rattle.std.proofs.Common.{◌≡◌, ◌+◌, ◌-◌, ◌*◌, ◌^◌, ◌≤◌, ◌≤ℤ◌, ◌*ℤ◌, ℕ, suc, ℤ, pos, negsuc, Bool, true, false, Option, Some, None, nat_le, refl, ap, subst, arith}
use Rattle.std.specs.Prelude.{◌&&◌}
use Rattle.std.proofs.lemmas.Int.{ints}
use Rattle.std.proofs.lemmas.Nat.{pow_pos}
use Rattle.std.proofs.lemmas.Bool.Decides.{nat_tests}
use Rattle.exact_algebra.specs.Ratio.{Ratio, den, whole, ◌≼◌}
use Rattle.exact_algebra.specs.Complex.{Complex, square_size}
use Rattle.exact_algebra.proofs.Ratios.{num-times, den-times}
use Rattle.exact_algebra.proofs.WholeOrder.{mul-le_left}
use Rattle.exact_fraction.specs.Scaled.{floor_scaled_of, ceil_scaled_of}
use Rattle.complex_interval.specs.Rectangles.{IsAtMostSquare, IsAtLeastSquare, low_square_sum, high_square_sum}
use Rattle.complex_interval.proofs.Ranges.{floor_at_most, ceil_at_least, end_is, same_value}
use Rattle.complex_interval.proofs.Sizes.{four, low_square_bound, high_square_bound}
use Rattle.network_theory.specs.Order.{Order}
use Rattle.network_theory.specs.Network.{Network}
use Rattle.network_theory.specs.Scanned.{IsClearedAt, IsPeakAt}
use Rattle.branchwise_laws.specs.Near.{IsAtMost, IsAtLeast}
use Rattle.branchwise_laws.specs.Wholes.{units}
use Rattle.branchwise_laws.proofs.Wholes.{whole_answers}
use Rattle.branchwise_test.specs.Enclosed.{Near}
use Rattle.branchwise_test.specs.Holds.{IsNear}
use Rattle.branchwise_test.specs.Answers.{level_below, level_above, is_clear_near, is_above_near, AnswersAreTrue}

-- the units of 1/2^s
den-units : (s r : ℕ) → den (units s r) ≡ pos (2 ^ s)
unfolding den
den-units s r = let some = pow_pos s in ap pos (let e : suc (2 ^ s - 1) ≡ 2 ^ s = omega arith in e)

den_is : (x : Ratio) → den x ≡ pos (suc x.den_less_one)
unfolding den
den_is x = refl

-- squares of whole numbers
more_wholes : (m n k : ℕ) → m ≤ n → (pos m *ℤ pos k) ≤ℤ (pos n *ℤ pos k)
more_wholes m n k l = let z : (pos k *ℤ pos m) ≤ℤ (pos k *ℤ pos n) = mul-le_left k (pos m) (pos n) (let y : pos m ≤ℤ pos n = omega (arith, ints) in y) in omega (arith, ints, z)

next_most : (a b c : ℤ) → a ≤ℤ b → b ≤ℤ c → a ≤ℤ c
next_most a b c h k = omega (arith, ints)

pub square_most : (s r n : ℕ) (q : Complex) → IsAtLeastSquare s n q → n ≤ r * r → IsAtMost q (units s r)
square_most s r n q h l = record { cross = rw (den-times (units s r) (units s r), num-times (units s r) (units s r), den-units s r) (by (square_size q) (subst (λ z. ((square_size q).num *ℤ z) ≤ℤ (pos n *ℤ den (square_size q))) (four s) h)) }
  where
    by : (x : Ratio) → (x.num *ℤ (pos (2 ^ s) *ℤ pos (2 ^ s))) ≤ℤ (pos n *ℤ den x) → (x.num *ℤ (pos (2 ^ s) *ℤ pos (2 ^ s))) ≤ℤ ((pos r *ℤ pos r) *ℤ den x)
    by x a = next_most _ _ _ a (rw (den_is x) (more_wholes n (r * r) (suc x.den_less_one) l))

pub square_least : (s r n : ℕ) (q : Complex) → IsAtMostSquare s n q → r * r ≤ n → IsAtLeast q (units s r)
square_least s r n q h l = record { cross = rw (den-times (units s r) (units s r), num-times (units s r) (units s r), den-units s r) (by (square_size q) (subst (λ z. (pos n *ℤ den (square_size q)) ≤ℤ ((square_size q).num *ℤ z)) (four s) h)) }
  where
    by : (x : Ratio) → (pos n *ℤ den x) ≤ℤ (x.num *ℤ (pos (2 ^ s) *ℤ pos (2 ^ s))) → ((pos r *ℤ pos r) *ℤ den x) ≤ℤ (x.num *ℤ (pos (2 ^ s) *ℤ pos (2 ^ s)))
    by x a = next_most _ _ _ (rw (den_is x) (more_wholes (r * r) n (suc x.den_less_one) l)) a

-- the levels
below_level : (s c : ℕ) (T : Ratio) → pos c ≡ floor_scaled_of T s → units s c ≼ T
below_level s c T e = record { cross = rw (den-units s c, e) (floor_at_most s T T (same_value T)) }

above_level : (s c : ℕ) (T : Ratio) → pos c ≡ ceil_scaled_of T s → T ≼ units s c
above_level s c T e = record { cross = rw (den-units s c, e) (ceil_at_least s T T (same_value T)) }

both_true : (a b : Bool) → (a && b) ≡ true → (a ≡ true) × (b ≡ true)
both_true true b e = (refl, e)
both_true false b e = absurd cc

at_most : (a b : ℕ) → nat_le a b ≡ true → a ≤ b
at_most a b e = grind (arith, nat_tests)

module _ (s : ℕ) (network : Network) (h : Order) (driven : ℕ) (near : Near) (T : Ratio) (n : IsNear s network h driven near) where
  clear_by : (o : Option ℤ) → o ≡ level_below s T → is_clear_near o near ≡ true → IsClearedAt network h driven T
  clear_by None e t = absurd cc
  clear_by (Some (negsuc c)) e t = absurd cc
  clear_by (Some (pos c)) e t =
      let (a, b) = both_true _ _ t in
      let fits : near.error ≤ c = at_most _ _ a in
      whole_answers.cleared s network h driven n.number near.error (c - near.error) c T n.impedance
      (square_most s (c - near.error) (high_square_sum near.estimate) n.number (high_square_bound s near.estimate n.number n.held) (at_most _ _ b)) (omega (arith, fits)) (below_level s c T (end_is (pos c) _ e))

  above_by : whole (pos 0) ≼ T → (o : Option ℤ) → o ≡ level_above s T → is_above_near o near ≡ true → IsPeakAt network h driven T
  above_by z None e t = absurd cc
  above_by z (Some (negsuc c)) e t = absurd cc
  above_by z (Some (pos c)) e t =
      whole_answers.above s network h driven n.number near.error (c + near.error + 1) c T n.impedance z
      (square_least s (c + near.error + 1) (low_square_sum near.estimate) n.number (low_square_bound s near.estimate n.number n.held) (at_most _ _ t)) (above_level s c T (end_is (pos c) _ e)) (omega arith)

pub answers_are_true : (s : ℕ) → AnswersAreTrue s
answers_are_true s = record {
  clear = λ network h driven near T n t. clear_by s network h driven near T n (level_below s T) refl t;
  above = λ network h driven near T n z t. above_by s network h driven near T n z (level_above s T) refl t;
}
