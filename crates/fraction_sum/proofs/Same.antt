-- Fractions that are equal in value have the same floors and ceilings.
use Rattle.std.proofs.Common.{◌≡◌, ℕ, ap₂, arith}
use Rattle.std.proofs.lemmas.Int.{ints}
use lib.IntN.{ℤ}
use lib.Signed.{◌≤ℤ◌}
use Rattle.exact_algebra.specs.Ratio.{Ratio, den, ◌≈◌, ◌≼◌}
use Rattle.exact_algebra.proofs.WholeOrder.{floor_div_greatest, ceil_div_least}
use Rattle.exact_fraction.specs.Scaled.{floor_scaled_of, ceil_scaled_of}
use Rattle.complex_interval.specs.Ends.{range_ends, ends_in_range}
use Rattle.complex_interval.proofs.Ranges.{floor_at_most, ceil_at_least}

equal_order : (m n : ℤ) → m ≡ n → (m ≤ℤ n) × (n ≤ℤ m)
equal_order m n e = (omega (arith, ints), omega (arith, ints))

order_equal : (m n : ℤ) → m ≤ℤ n → n ≤ℤ m → m ≡ n
order_equal m n h k = omega (arith, ints)

at_most : (x y : Ratio) → x ≈ y → x ≼ y
at_most x y h = record { cross = (equal_order _ _ h.cross).0 }

at_least : (x y : Ratio) → x ≈ y → y ≼ x
at_least x y h = record { cross = (equal_order _ _ h.cross).1 }

-- a greater fraction has no lower floor, and no lower ceiling
floor_ordered : (s : ℕ) (x y : Ratio) → x ≼ y → floor_scaled_of x s ≤ℤ floor_scaled_of y s
unfolding den
floor_ordered s x y h = floor_div_greatest (floor_scaled_of x s) _ _ (omega arith) (floor_at_most s x y h)

ceil_ordered : (s : ℕ) (x y : Ratio) → x ≼ y → ceil_scaled_of x s ≤ℤ ceil_scaled_of y s
unfolding den
ceil_ordered s x y h = ceil_div_least (ceil_scaled_of y s) _ _ (omega arith) (ceil_at_least s y x h)

pub floor_same : (s : ℕ) (x y : Ratio) → x ≈ y → floor_scaled_of x s ≡ floor_scaled_of y s
floor_same s x y h = order_equal _ _ (floor_ordered s x y (at_most x y h)) (floor_ordered s y x (at_least x y h))

pub ceil_same : (s : ℕ) (x y : Ratio) → x ≈ y → ceil_scaled_of x s ≡ ceil_scaled_of y s
ceil_same s x y h = order_equal _ _ (ceil_ordered s x y (at_most x y h)) (ceil_ordered s y x (at_least x y h))

-- so their intervals have the same ends
pub range_same : (s : ℕ) (x y : Ratio) → x ≈ y → range_ends s x x ≡ range_ends s y y
range_same s x y h = ap₂ ends_in_range (floor_same s x y h) (ceil_same s x y h)
