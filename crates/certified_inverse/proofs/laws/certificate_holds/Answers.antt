use Rattle.certified_inverse.proofs.Law.{certificate_holds, enclosure_holds}
use Rattle.certified_inverse.proofs.laws.certificate_holds.Goals as goal

pub returns : goal.returns
returns c = record { law = certificate_holds; stated = enclosure_holds }
