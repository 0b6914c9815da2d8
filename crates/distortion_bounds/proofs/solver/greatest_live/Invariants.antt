use Rattle.std.proofs.Common.{◌≡◌, false, get_or}
use Rattle.distortion_bounds.specs.Solver.{last_in}
use Rattle.distortion_bounds.proofs.solver.greatest_live.Given as goal

abbrev pub invariant-loop-node : goal.invariant-loop-node
invariant-loop-node l = l.greatest ≡ last_in (λ n. get_or l.marks n false) l.node
