use Rattle.std.proofs.Common.{◌≡◌, ◌+◌, ℕ, ◌<◌}
use Rattle.std.specs.Prelude.{slice_get, IsSomeAnd}
use Rattle.net_branch.specs.Exact.{exact_network}
use Rattle.sequence_network.specs.Refusals.{IsLiveScan}
use Rattle.sequence_network.proofs.live.check_scans.Given as goal

abbrev pub invariant-loop-scan : goal.invariant-loop-scan
invariant-loop-scan l = record {
  number : l.number ≡ l.scan-index + 1;
  live : (k : ℕ) → k < l.scan-index → IsSomeAnd (slice_get l.scans k) (IsLiveScan (exact_network l.network));
}
