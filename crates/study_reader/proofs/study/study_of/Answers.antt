use Rattle.study_reader.proofs.Parts.{lawful_of}
use Rattle.study_reader.proofs.study.study_of.Goals as goal

pub returns-clause-lawful : goal.returns-clause-lawful
returns-clause-lawful c = lawful_of _ c.in_ok-study.study c.in_ok-study.ensures.read.0 c.in_ok-study.ensures.read.1
