-- Roots rounded down.
use Rattle.std.proofs.Common.{◌≡◌, ℕ, zero, suc, ◌-◌, ◌*◌, ◌≤◌, arith, inl, inr}
use Rattle.std.proofs.lemmas.Nat.{mul-le}
use Rattle.exact_fraction.proofs.Roots.{root_ceil_is, root_ceil_only}
use Rattle.exact_fraction.specs.Root.{root_ceil_of}
use Rattle.admittance_box.proofs.NodeOrderings.{below_or}
use Rattle.distortion_bounds.specs.Percents.{root_floor_of}

-- by its own properties
pub root_floor_only : (n r : ℕ) → r * r ≤ n → ((m : ℕ) → m * m ≤ n → m ≤ r) → r ≡ root_floor_of n
unfolding root_floor_of
root_floor_only n r square greatest = let e : suc r ≡ root_ceil_of (suc n) = root_ceil_only (suc n) (suc r) over least in omega (arith, e)
  where
    over : suc n ≤ suc r * suc r
    over = elim (below_or n (suc r * suc r)) [ inl h ↦ omega (arith, h) | inr h ↦ absurd (let more = greatest (suc r) h in omega (arith, more)) ]

    least : (m : ℕ) → suc n ≤ m * m → suc r ≤ m
    least m h = elim (below_or r m) [ inl k ↦ omega (arith, k) | inr k ↦ absurd (let small = mul-le m m r r k k in omega (arith, small, square, h)) ]

-- its square is at most the number
pub root_floor_square : (n : ℕ) → root_floor_of n * root_floor_of n ≤ n
unfolding root_floor_of
root_floor_square n = go (root_ceil_of (suc n)) (root_ceil_is (suc n)).least
  where
    go : (r : ℕ) → ((m : ℕ) → suc n ≤ m * m → r ≤ m) → (r - 1) * (r - 1) ≤ n
    go zero least = omega arith
    go (suc r) least =
        let e : suc r - 1 ≡ r = omega arith in
        rw e (elim (below_or n (r * r)) [ inl h ↦ absurd (let more = least r (omega (arith, h)) in omega (arith, more)) | inr h ↦ h ])

-- of lesser numbers it is at most the root rounded up of a greater one
pub roots_ordered : (m n : ℕ) → m ≤ n → root_floor_of m ≤ root_ceil_of n
roots_ordered m n h = by (root_floor_of m) (root_ceil_of n) (root_floor_square m) (root_ceil_is n).square
  where
    by : (r t : ℕ) → r * r ≤ m → n ≤ t * t → r ≤ t
    by r t p q = elim (below_or t r) [ inl k ↦ absurd (let more = mul-le (suc t) (suc t) r r k k in omega (arith, more, p, q, h)) | inr k ↦ k ]
