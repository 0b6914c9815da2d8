use Rattle.admittance_box.proofs.OutsidePattern.{zero_outside}
use Rattle.admittance_box.proofs.spots.zero_outside.Goals as goal

pub returns : goal.returns
returns c = record { law = zero_outside }
