-- The least whole number whose square is at least n.
use Rattle.std.proofs.Common.{◌≡◌, ℕ, zero, suc, ◌+◌, ◌*◌, ◌≤◌, ◌<◌, Bool, true, false, refl, arith}
use Rattle.std.specs.Prelude.{nat_le, if◌then◌else◌}
use Rattle.std.proofs.Math.Nat.{mul-le-mul_left}
use Rattle.std.proofs.lemmas.Bool.Decides.{nat_tests}
use Rattle.exact_fraction.specs.Root.{root_from, root_ceil_of}

-- r is at least n when squared, and no number below it is
pub record IsRootCeil (n r : ℕ) : Type 0 where
  pub square : n ≤ r * r
  pub least : (m : ℕ) → n ≤ m * m → r ≤ m

le_true : (m n : ℕ) → nat_le m n ≡ true → m ≤ n
le_true m n h = grind (arith, nat_tests)

le_false : (m n : ℕ) → nat_le m n ≡ false → n < m
le_false m n h = grind (arith, nat_tests)

own_square : (n : ℕ) → n ≤ n * n
own_square zero = omega arith
own_square (suc n) = omega arith

square_below : (m k : ℕ) → m ≤ k → m * m ≤ k * k
square_below m k h = omega (arith, mul-le-mul_left m h, mul-le-mul_left k h)

next_least : (k n m : ℕ) → k * k < n → n ≤ m * m → suc k ≤ m
next_least k n m below h = by (nat_le (suc k) m) refl
  where
    by : (t : Bool) → nat_le (suc k) m ≡ t → suc k ≤ m
    by true e = le_true _ _ e
    by false e = let l : m < suc k = le_false _ _ e in let s : m * m ≤ k * k = square_below m k (omega arith) in absurd (omega arith)

-- the first of k and the numbers above, where no number below k is so, and where the later ones are sought as they should be
one_step : (t : Bool) (k n later : ℕ) → nat_le n (k * k) ≡ t → ((m : ℕ) → n ≤ m * m → k ≤ m) → (k * k < n → IsRootCeil n later) → IsRootCeil n (if t then k else later)
one_step true k n later e least more = record { square = le_true _ _ e; least = least }
one_step false k n later e least more = more (le_false _ _ e)

found : (steps k n : ℕ) → n ≤ k + steps → ((m : ℕ) → n ≤ m * m → k ≤ m) → IsRootCeil n (root_from steps k n)
found zero k n enough least = let own = own_square k in record { square = omega arith; least = least }
found (suc steps) k n enough least =
    one_step (nat_le n (k * k)) k n (root_from steps (suc k) n) refl least (λ below. found steps (suc k) n (omega arith) (λ m h. next_least k n m below h))

pub root_ceil_is : (n : ℕ) → IsRootCeil n (root_ceil_of n)
unfolding root_ceil_of
root_ceil_is n = found n 0 n (omega arith) (λ m h. omega arith)

-- any number that is so is this one
pub root_ceil_only : (n r : ℕ) → n ≤ r * r → ((m : ℕ) → n ≤ m * m → r ≤ m) → r ≡ root_ceil_of n
root_ceil_only n r square least =
    let it = root_ceil_is n in
    let below : r ≤ root_ceil_of n = least _ it.square in
    let above : root_ceil_of n ≤ r = it.least r square in
    omega arith

-- of a number above 0 it is above 0
pub root_ceil_positive : (n : ℕ) → 0 < n → 0 < root_ceil_of n
root_ceil_positive n some = positive (root_ceil_of n) (root_ceil_is n).square
  where
    positive : (r : ℕ) → n ≤ r * r → 0 < r
    positive zero h = omega arith
    positive (suc r) h = omega arith
