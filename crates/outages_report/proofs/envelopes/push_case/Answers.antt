use Rattle.outages_report.proofs.Columns.{none_put}
use Rattle.outages_report.proofs.envelopes.push_case.Goals as goal

pub returns-in-None : goal.returns-in-None
returns-in-None c = none_put c.args.column.now c.args.cases.now c.args.place c.in-None.ensures.lookup.3
