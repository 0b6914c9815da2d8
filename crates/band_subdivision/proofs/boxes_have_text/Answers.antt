use Rattle.band_subdivision.proofs.Texts.{boxes_have_text}
use Rattle.band_subdivision.proofs.boxes_have_text.Goals as goal

pub returns : goal.returns
returns c = record { law = boxes_have_text }
