use Rattle.study_scans.proofs.Holds.{boxes_hold}
use Rattle.study_scans.proofs.boxes_hold.Goals as goal

pub returns : goal.returns
returns c = record { law = boxes_hold }
