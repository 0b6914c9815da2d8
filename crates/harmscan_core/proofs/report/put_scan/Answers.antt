use Rattle.harm_io.proofs.Writing.{writes_stop}
use Rattle.study_scans.specs.declared.counts.Counts.{Counts}
use Rattle.harmscan_core.specs.Texts.{scan_text, head_text, body_text}
use Rattle.harmscan_core.proofs.report.put_scan.Goals as goal

pub returns-in-Err-clause-wrote : goal.returns-in-Err-clause-wrote
unfolding scan_text
returns-in-Err-clause-wrote g c =
    let study = c.args.study.now in
    writes_stop (Unit {0}) Counts (head_text study c.args.scan.now) (body_text study.hz c.args.scan.now c.args.walk.now.left)
    (g.O.Sink.state c.args.out.now) (g.O.Sink.state c.put_head.new.out) c.in-Err.fault c.in-Err.ensures
