-- Whether a distortion is within its limit. A distortion is given by its square, a fraction of 1; bounds and limits are in ten-thousandths of
-- a percent, millionths of 1.
use Rattle.std.specs.Prelude.{◌≢◌, ℕ, ◌*◌, ◌^◌, pos, Option, Some, None}
use Rattle.exact_algebra.specs.Ratio.{Ratio, over, ◌≼◌, ◌≺◌}
use Rattle.ieee519_limits.specs.declared.bounds.PercentBounds.{PercentBounds}
use Rattle.ieee519_limits.specs.declared.bounds.Verdict.{Verdict}
use Rattle.ieee519_limits.specs.declared.bounds.Verdict.TheVariants.{Pass, Fail, Undecided}
use Rattle.ieee519_limits.specs.Verdicts.{verdict_of}

-- the square of a percentage: (n/10^6)²
unfoldable pub percent_square : ℕ → Ratio
percent_square n = over (pos (n * n)) (10 ^ 12)

-- the exact verdict on a distortion of this square: pass where it is at most the limit, else fail
abbrev pub IsExactVerdict : Ratio → ℕ → Verdict → Type 0
IsExactVerdict square limit Pass = square ≼ percent_square limit
IsExactVerdict square limit Fail = percent_square limit ≺ square
IsExactVerdict square limit Undecided = ⊥

-- the distortion of this square lies between the bounds
abbrev pub Bounds : Option PercentBounds → Ratio → Type 0
Bounds None square = ⊥
Bounds (Some b) square = (percent_square b.lo ≼ square) × (square ≼ percent_square b.hi)

-- of a distortion between the bounds, the verdict is the exact one where it is pass or fail
abbrev pub VerdictsAreExact : Type 0
VerdictsAreExact = (bounds : Option PercentBounds) (square : Ratio) (limit : ℕ) → Bounds bounds square → verdict_of bounds limit ≢ Undecided → IsExactVerdict square limit (verdict_of bounds limit)
