-- How great the numbers of an outcome are.
use Rattle.std.specs.Prelude.{◌^◌, ◌≤◌, unsigned_abs}
use Rattle.certified_inverse.specs.declared.outcome.InverseOutcome.{InverseOutcome}
use Rattle.certified_inverse.specs.declared.outcome.InverseOutcome.TheVariants.{Enclosed}

-- both parts of an enclosed value are of a size of at most 2^62
abbrev pub IsInRange : InverseOutcome → Type 0
IsInRange (Enclosed re im error) = (unsigned_abs re ≤ 2 ^ 62) × (unsigned_abs im ≤ 2 ^ 62)
IsInRange _ = Unit {0}
