use Rattle.std.proofs.Common.{◌≡◌, ◌++◌, map, take}
use Rattle.net_branch.specs.Exact.{exact_law, exact_branch}
use Rattle.load_filter_model.specs.Ports.{returning}
use Rattle.load_filter_model.proofs.port.push_returning.Given as goal

abbrev pub invariant-loop-law : goal.invariant-loop-law
invariant-loop-law l = map exact_branch l.branches ≡ map exact_branch l.initial.branches ++ returning l.neutral l.node (map exact_law (take l.law-index l.laws)) l.owner
