use Rattle.std.proofs.Common.{◌≡◌, ◌+◌, ℕ, ◌<◌}
use Rattle.std.specs.Prelude.{slice_get, IsSomeAnd}
use Rattle.harmonic_injection.specs.Paths.{HasPath}
use Rattle.harmonic_injection.proofs.paths.check_rows.Given as goal

abbrev pub invariant-loop-row : goal.invariant-loop-row
invariant-loop-row l = record {
  number : l.number ≡ l.row-index + 1;
  paths : (k : ℕ) → k < l.row-index → IsSomeAnd (slice_get l.rows k) (HasPath l.study);
}
