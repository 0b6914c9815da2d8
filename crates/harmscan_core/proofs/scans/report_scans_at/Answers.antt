use Rattle.harmscan_core.proofs.Written.{ready, is_reported, not_reported}
use Rattle.harmscan_core.proofs.scans.report_scans_at.Goals as goal

pub put_report-requires-clause-plan : goal.put_report-requires-clause-plan
put_report-requires-clause-plan g c = ready c.args.study.now c.in-Ok.plan.items c.requires.study c.in-Ok.ensures.plan

pub returns-in-Ok-put_report : goal.returns-in-Ok-put_report
returns-in-Ok-put_report g c =
    is_reported c.args.study.now c.args.networks.now c.in-Ok.plan.items _ _ _ c.requires.study c.requires.networks c.in-Ok.ensures.plan c.in-Ok-put_report.ensures.status c.in-Ok-put_report.ensures.wrote
