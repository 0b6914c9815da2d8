-- Exact values in per unit. Each argument is the whole number of millionths of a decimal, in the unit that the comment names.
use Rattle.std.specs.Prelude.{ℕ, ℤ, pos, ◌*◌, ◌^◌, ◌*ℤ◌, ◌+ℤ◌, ◌-ℤ◌, unsigned_abs}
use Rattle.exact_algebra.specs.Ratio.{Ratio, over}

-- a value as it is written: d/10^6
unfoldable pub as_written : ℤ → Ratio
as_written d = over d (10 ^ 6)

-- an impedance of z ohms, for a base of s MVA and v kV: z·s/v²
unfoldable pub impedance_per_unit : ℤ → ℤ → ℤ → Ratio
impedance_per_unit z s v = over (z *ℤ s) (unsigned_abs (v *ℤ v))

-- three coupled phases of z ohms in the positive and z0 ohms in the zero sequence, three times: a phase by itself, and two phases to one another
abbrev pub self_ohms : ℤ → ℤ → ℤ
self_ohms z z0 = z0 +ℤ pos 2 *ℤ z

abbrev pub mutual_ohms : ℤ → ℤ → ℤ
mutual_ohms z z0 = z0 -ℤ z

-- one of n equal parts in series of an impedance of z ohms: z·s/(v²·n)
unfoldable pub impedance_share : ℤ → ℤ → ℤ → ℕ → Ratio
impedance_share z s v n = over (z *ℤ s) (unsigned_abs (v *ℤ v) * n)

-- one of n equal parts side by side of a susceptance of b microsiemens: b·v²/(s·10^18·n)
unfoldable pub susceptance_share : ℤ → ℤ → ℤ → ℕ → Ratio
susceptance_share b s v n = over (b *ℤ (v *ℤ v)) (unsigned_abs s * 10 ^ 18 * n)

-- the impedance of a rating of q MW or MVAr: s/q
unfoldable pub impedance_of_rating : ℤ → ℤ → Ratio
impedance_of_rating q s = over s (unsigned_abs q)

-- the susceptance of a rating of q MVAr: q/s
unfoldable pub susceptance_of_rating : ℤ → ℤ → Ratio
susceptance_of_rating q s = over q (unsigned_abs s)

-- z percent on a transformer's own rating of t MVA: z·s/(10^8·t)
unfoldable pub percent_per_unit : ℤ → ℤ → ℤ → Ratio
percent_per_unit z s t = over (z *ℤ s) (unsigned_abs t * 10 ^ 8)

-- one over a transformer's ratio t: 10^6/t
unfoldable pub inverse_ratio : ℤ → Ratio
inverse_ratio t = over (pos (10 ^ 6)) (unsigned_abs t)
