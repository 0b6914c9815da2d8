use Rattle.std.proofs.Common.{◌+◌}
use Rattle.harm_io.proofs.Writing.{writes_stop}
use Rattle.scan_report.specs.Rows.{row_text}
use Rattle.study_scans.specs.Report.{row_of}
use Rattle.harmscan_core.specs.Texts.{step_text, ended_text}
use Rattle.harmscan_core.proofs.report.put_step.Goals as goal

pub returns-in-Err : goal.returns-in-Err
unfolding step_text
returns-in-Err g c =
    let b = c.args.found.now in
    writes_stop (Unit {0}) (Unit {0}) (ended_text c.args.hz c.args.tally.regions c.args.tally.run b.kind) (row_text (row_of (c.args.tally.counts.boxes + 1) b.lo b.hi b.kind))
    (g.O.Sink.state c.args.out.now) (g.O.Sink.state c.put_ended.new.out) c.in-Err.fault c.in-Err.ensures
