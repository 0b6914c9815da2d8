use Rattle.std.proofs.Common.{refl}
use Rattle.certified_inverse.specs.Certificate.{ceil_over}
use Rattle.drop_bench.proofs.Rounding.{ceil_at_most}
use Rattle.drop_bench.proofs.sums.ceil_over.Goals as goal

pub returns-clause-value : goal.returns-clause-value
unfolding ceil_over
returns-clause-value c = refl

pub returns-clause-bound : goal.returns-clause-bound
returns-clause-bound c = ceil_at_most c.args.top c.args.bottom c.requires.some
