use Rattle.std.proofs.Common.{ℕ, ◌<◌}
use Rattle.network_theory.specs.Live.{Live}
use Rattle.net_branch.specs.Exact.{exact_network}
use Rattle.sequence_network.proofs.live.first_dead.Given as goal

abbrev pub invariant-loop-number : goal.invariant-loop-number
invariant-loop-number l = (n : ℕ) → n < l.number → Live (exact_network l.network) n
