-- Whole square roots, rounded up.
use Rattle.std.specs.Prelude.{ℕ, zero, suc, ◌*◌, nat_le, if◌then◌else◌}

-- the first of k and the numbers above whose square is at least n, sought in so many steps
abbrev pub root_from : ℕ → ℕ → ℕ → ℕ
root_from zero k n = k
root_from (suc steps) k n = if nat_le n (k * k) then k else root_from steps (suc k) n

-- the least whole number whose square is at least n
unfoldable pub root_ceil_of : ℕ → ℕ
root_ceil_of n = root_from n 0 n
