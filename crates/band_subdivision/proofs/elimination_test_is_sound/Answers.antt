use Rattle.band_subdivision.proofs.Sound.{test_is_sound}
use Rattle.band_subdivision.proofs.elimination_test_is_sound.Goals as goal

pub returns : goal.returns
returns c = record { law = test_is_sound }
