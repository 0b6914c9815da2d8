use Rattle.band_subdivision.proofs.InverseSound.{inverse_is_sound}
use Rattle.band_subdivision.proofs.inverse_test_is_sound.Goals as goal

pub returns : goal.returns
returns c = record { law = inverse_is_sound }
