use Rattle.std.proofs.Common.{arith}
use Rattle.std.proofs.lemmas.Int.{ints}
use Rattle.std.proofs.lemmas.Nat.{one_shl, pow_below}
use Rattle.middle_inverse.proofs.point.unit_of.Goals as goal

pub returns-clause-value : goal.returns-clause-value
returns-clause-value c = let small = c.requires in let e = one_shl c.args.scale 64 (omega arith) in let b = pow_below c.args.scale 49 (omega arith) in rw e (omega (arith, ints))

pub returns-clause-bound : goal.returns-clause-bound
returns-clause-bound c = let small = c.requires in let e = one_shl c.args.scale 64 (omega arith) in let b = pow_below c.args.scale 49 (omega arith) in rw e (omega (arith, ints))
