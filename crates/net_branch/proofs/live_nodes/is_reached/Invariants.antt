use Rattle.std.proofs.Common.{◌≡◌, false, take, get_or}
use Rattle.std.specs.Prelude.{All}
use Rattle.net_branch.proofs.live_nodes.is_reached.Given as goal

abbrev pub invariant-loop-tap : goal.invariant-loop-tap
invariant-loop-tap l = All (λ t. get_or l.marks t.node.number false ≡ false) (take l.tap-index l.taps)
