use Rattle.certified_inverse.proofs.Worked.{worked}
use Rattle.certified_inverse.proofs.laws.worked_certificates.Goals as goal

pub returns : goal.returns
returns c = record { law = worked }
