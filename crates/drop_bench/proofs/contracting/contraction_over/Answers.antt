use Rattle.std.proofs.Common.{◌/◌, ◌^◌, sym}
use Rattle.middle_inverse.specs.Lists.{greatest}
use Rattle.drop_bench.proofs.Reaches.{above_zero}
use Rattle.drop_bench.proofs.contracting.contraction_over.Goals as goal

pub theta_over-requires-clause-some : goal.theta_over-requires-clause-some
theta_over-requires-clause-some g c = above_zero (greatest c.write_reaches.new.all / 2 ^ 20) c.write_reaches.new.all c.write_weights.new.weights (sym c.in_ok-write_weights.ensures)
