use Rattle.std.proofs.Common.{arith}
use Rattle.exact_fraction.proofs.Steps.{pow_next, pow_at_most}
use Rattle.fraction_sum.proofs.parts.scaled_split.Goals as goal
use Rattle.fraction_sum.proofs.parts.scaled_split.Goals.{then-double-den, else-double-den}

pub loop-i-preserved : goal.loop-i-preserved
loop-i-preserved c =
    let kept = c.loop-i.invariant in
    elim c.if-double-den.branch [
      | then-double-den w ↦ rw (w.quotient-is, w.left-is, pow_next c.loop-i._i) (omega arith)
      | else-double-den w ↦ rw (w.quotient-is, w.left-is, pow_next c.loop-i._i) (omega arith)
    ]

pub returns-clause-bound : goal.returns-clause-bound
returns-clause-bound c = let kept = c.loop-i.invariant in let most = pow_at_most c.loop-i._i 48 (omega arith) in omega arith
