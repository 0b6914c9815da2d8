use Rattle.band_subdivision.proofs.BranchwiseSound.{branchwise_is_sound}
use Rattle.band_subdivision.proofs.branchwise_part_is_sound.Goals as goal

pub returns : goal.returns
returns c = record { law = branchwise_is_sound }
