use Rattle.band_subdivision.proofs.PartTests as P
use Rattle.band_subdivision.proofs.parts_are_sound.Goals as goal

pub returns : goal.returns
returns c = record { law = P.parts_are_sound }
