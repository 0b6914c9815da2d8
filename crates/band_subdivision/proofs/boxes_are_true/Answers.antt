use Rattle.band_subdivision.proofs.Truths.{boxes_are_true}
use Rattle.band_subdivision.proofs.boxes_are_true.Goals as goal

pub returns : goal.returns
returns c = record { law = boxes_are_true }
