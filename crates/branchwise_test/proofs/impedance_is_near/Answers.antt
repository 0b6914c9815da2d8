use Rattle.branchwise_test.proofs.Extra.{impedance_is_near}
use Rattle.branchwise_test.proofs.impedance_is_near.Goals as goal

pub returns : goal.returns
returns c = record { law = λ s. impedance_is_near s }
