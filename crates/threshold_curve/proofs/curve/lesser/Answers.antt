use Rattle.std.proofs.Common.{sym}
use Rattle.threshold_curve.proofs.Lesser.{lesser_at_most, lesser_above}
use Rattle.threshold_curve.proofs.curve.lesser.Goals as goal

pub returns-then-at_most-clause-value : goal.returns-then-at_most-clause-value
returns-then-at_most-clause-value c = sym (lesser_at_most _ _ (c.at_most.ensures.0 c.if-at_most.true))

pub returns-else-at_most-clause-value : goal.returns-else-at_most-clause-value
returns-else-at_most-clause-value c = sym (lesser_above _ _ (λ below. let yes = c.at_most.ensures.1 below in let no = c.if-at_most.false in absurd cc))
