-- What rounding up keeps.
use Rattle.std.proofs.Common.{◌≡◌, ◌+◌, ◌-◌, ◌*◌, ◌/◌, ◌%◌, ◌≤◌, ◌<◌, ℕ, suc, arith, inl, inr}
use Rattle.std.proofs.Math.Nat.{mul-le-mul_left}
use Rattle.admittance_box.proofs.NodeOrderings.{below_or}

-- a quotient rounded up is at most what is divided
pub ceil_at_most : (a b : ℕ) → 0 < b → (a + (b - 1)) / b ≤ a
ceil_at_most a b h = elim (below_or a ((a + (b - 1)) / b)) [
  | inl l ↦
      let x = a + (b - 1) in
      let e : b * (x / b) + x % b ≡ x = omega arith in
      let more : b * suc a ≤ b * (x / b) = mul-le-mul_left b l in
      let least : 1 * a ≤ b * a = least_of a b h in
      absurd (omega (arith, e, more, least))
  | inr l ↦ l
]
  where
    least_of : (a b : ℕ) → 0 < b → 1 * a ≤ b * a
    least_of a b h = let k : a * 1 ≤ a * b = mul-le-mul_left a h in omega (arith, k)
