use Rattle.branchwise_test.proofs.Worked.{worked_estimates}
use Rattle.branchwise_test.proofs.worked_estimates.Goals as goal

pub returns : goal.returns
returns c = record { law = worked_estimates }
