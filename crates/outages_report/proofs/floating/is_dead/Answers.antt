use Rattle.outages_report.proofs.Lives.{dead_is}
use Rattle.outages_report.proofs.floating.is_dead.Goals as goal

pub returns : goal.returns
returns c = dead_is c.args.network.now c.args.marks.now c.args.node c.requires.whole c.requires.marks c.requires.inside
