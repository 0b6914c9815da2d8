use Rattle.std.proofs.Common.{arith}
use Rattle.std.proofs.lemmas.Int.{ints}
use Rattle.std.proofs.lemmas.Nat.{one_shl}
use Rattle.exact_fraction.proofs.Steps.{pow_at_most}
use Rattle.fraction_sum.proofs.end.unit_of.Goals as goal

pub returns-clause-bound : goal.returns-clause-bound
returns-clause-bound c = let small = c.requires in let e = one_shl c.args.s 128 (omega arith) in let b = pow_at_most c.args.s 48 small in rw e (omega (arith, ints))
