use Rattle.study_scans.proofs.Sound.{test_is_sound}
use Rattle.study_scans.proofs.tests_are_sound.Goals as goal

pub returns : goal.returns
returns c = record { law = test_is_sound }
