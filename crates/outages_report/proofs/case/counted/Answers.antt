use Rattle.outages_report.proofs.Counted.{case_is}
use Rattle.outages_report.proofs.case.counted.Goals as goal

pub returns : goal.returns
returns g c = case_is c.args.scan.now c.seen_in-seen.result.tally c.seen_in-seen.result.summit c.args.walk.now.left c.seen_in-seen.ensures.tally c.seen_in-seen.ensures.summit
