use Rattle.branchwise_laws.proofs.Extra.{shunt_admitted}
use Rattle.branchwise_laws.proofs.shunt_admitted.Goals as goal

pub returns : goal.returns
returns c = record { law = shunt_admitted }
