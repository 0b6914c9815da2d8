use Rattle.ieee519_limits.proofs.Exactly.{exact}
use Rattle.ieee519_limits.proofs.judging.verdicts_are_exact.Goals as goal

pub returns : goal.returns
returns c = record { law = exact }
