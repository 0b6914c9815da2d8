use Rattle.std.proofs.Common.{◌≡◌, true, take}
use Rattle.std.specs.Prelude.{nat_lt}
use Rattle.std.specs.List.{list_all}
use Rattle.net_branch.proofs.build.is_at_nodes.Given as goal

abbrev pub invariant-loop-tap : goal.invariant-loop-tap
invariant-loop-tap l = list_all (λ t. nat_lt t.node.number l.nodes) (take l.tap-index l.branch.taps) ≡ true
