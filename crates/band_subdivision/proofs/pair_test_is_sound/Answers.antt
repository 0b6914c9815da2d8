use Rattle.band_subdivision.proofs.PairSound.{pair_is_sound}
use Rattle.band_subdivision.proofs.pair_test_is_sound.Goals as goal

pub returns : goal.returns
returns c = record { law = pair_is_sound }
