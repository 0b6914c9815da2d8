-- What a verdict says of a value between two bounds.
use Rattle.std.specs.Prelude.{◌≡◌, ℕ, ◌*◌, ◌≤◌, ◌<◌, nat_le, if◌then◌else◌, Option, Some, None}
use Rattle.ieee519_limits.specs.declared.bounds.PercentBounds.{PercentBounds}
use Rattle.ieee519_limits.specs.declared.bounds.Verdict.{Verdict}
use Rattle.ieee519_limits.specs.declared.bounds.Verdict.TheVariants.{Pass, Fail, Undecided}

-- the low bound is at most the high one
abbrev pub AreOrdered : Option PercentBounds → Type 0
AreOrdered None = Unit {0}
AreOrdered (Some b) = b.lo ≤ b.hi

-- pass where both bounds are at most the limit, fail where both are above, else undecided
abbrev pub IsVerdict : Option PercentBounds → ℕ → Verdict → Type 0
IsVerdict None limit v = v ≡ Undecided
IsVerdict (Some b) limit Pass = b.hi ≤ limit
IsVerdict (Some b) limit Fail = limit < b.lo
IsVerdict (Some b) limit Undecided = (b.lo ≤ limit) × (limit < b.hi)

-- the verdict, as a function
unfoldable pub verdict_of : Option PercentBounds → ℕ → Verdict
verdict_of None limit = Undecided
verdict_of (Some b) limit = if nat_le b.hi limit then Pass else (if nat_le b.lo limit then Undecided else Fail)

-- n/d lies between the bounds
abbrev pub IsBetween : Option PercentBounds → ℕ → ℕ → Type 0
IsBetween None n d = ⊥
IsBetween (Some b) n d = (b.lo * d ≤ n) × (n ≤ b.hi * d)

-- a value between the bounds is at most the limit where the verdict is pass, and above it where the verdict is fail
abbrev pub IsTrueVerdict : Option PercentBounds → ℕ → Verdict → Type 0
IsTrueVerdict bounds limit Pass = (n d : ℕ) → 1 ≤ d → IsBetween bounds n d → n ≤ limit * d
IsTrueVerdict bounds limit Fail = (n d : ℕ) → 1 ≤ d → IsBetween bounds n d → limit * d < n
IsTrueVerdict bounds limit Undecided = Unit {0}
