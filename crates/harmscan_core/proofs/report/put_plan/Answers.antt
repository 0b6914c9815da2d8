use Rattle.std.proofs.Common.{ℕ}
use Rattle.harm_io.proofs.Writing.{writes_stop}
use Rattle.study_scans.specs.declared.counts.Found.{Found}
use Rattle.harmscan_core.specs.Plans.{plan_status}
use Rattle.harmscan_core.specs.Texts.{whole_text, plan_text, end_text}
use Rattle.harmscan_core.proofs.report.put_plan.Goals as goal

pub returns-in-Err-clause-wrote : goal.returns-in-Err-clause-wrote
unfolding whole_text
returns-in-Err-clause-wrote g c =
    writes_stop Found ℕ (plan_text c.args.study.now c.args.plan.now.items) (end_text (plan_status c.args.plan.now.items))
    (g.O.Sink.state c.args.out.now) (g.O.Sink.state c.put_scans.new.out) c.in-Err.fault c.in-Err.ensures.wrote
