use Rattle.harmscan_core.proofs.Tolerances.{ready, is_reported, not_reported}
use Rattle.harmscan_core.proofs.scans.report_tolerance_at.Goals as goal

pub put_tolerance-requires-clause-plan : goal.put_tolerance-requires-clause-plan
put_tolerance-requires-clause-plan g c = ready c.args.study.now c.in-Ok.plan.items c.requires.study c.in-Ok.ensures.plan

pub returns-in-Ok-put_tolerance : goal.returns-in-Ok-put_tolerance
returns-in-Ok-put_tolerance g c =
    is_reported c.args.study.now c.in-Ok.plan.items _ _ _ c.in-Ok.ensures.holds c.in-Ok.ensures.plan c.in-Ok-put_tolerance.ensures.status c.in-Ok-put_tolerance.ensures.wrote
