use Rattle.harmonic_injection.proofs.Models.{live_in_sequences}
use Rattle.harmonic_injection.proofs.paths.check_paths.Goals as goal

pub check_sequences-requires-clause-accepted : goal.check_sequences-requires-clause-accepted
check_sequences-requires-clause-accepted c = live_in_sequences c.args.study.now c.in-Sequence.is c.requires.live
