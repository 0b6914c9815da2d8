use Rattle.drill_study.proofs.Live.{is_lawful, is_live}
use Rattle.drill_study.proofs.drill.drill_study.Goals as goal

pub returns-clause-lawful : goal.returns-clause-lawful
returns-clause-lawful c = is_lawful c.args.number c.in_ok-study.study c.in_ok-study.ensures

pub returns-clause-live : goal.returns-clause-live
returns-clause-live c = is_live c.args.number c.in_ok-study.study c.in_ok-study.ensures
