use Rattle.std.proofs.Common.{◌≡◌, arith}
use Rattle.std.specs.Prelude.{sum_by}
use Rattle.std.proofs.lemmas.Grind.{common_steps}
use Rattle.distortion_bounds.proofs.Sums.{whole_total_held}
use Rattle.distortion_bounds.proofs.squares.total.Goals as goal

pub returns-clause-holds : goal.returns-clause-holds
returns-clause-holds c =
    let inv = c.loop-squares.invariant in
    let lo : c.loop-squares.lo ≡ sum_by (λ q. q.lo) c.args.list.now = grind (arith, common_steps, inv.lo) in
    let hi : c.loop-squares.hi ≡ sum_by (λ q. q.hi) c.args.list.now = grind (arith, common_steps, inv.hi) in
    whole_total_held c.args.list.now c.loop-squares.lo c.loop-squares.hi lo hi
