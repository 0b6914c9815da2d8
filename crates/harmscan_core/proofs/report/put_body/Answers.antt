use Rattle.harm_io.proofs.Writing.{writes_stop}
use Rattle.study_scans.specs.declared.counts.Counts.{Counts}
use Rattle.study_scans.specs.declared.counts.Tally.{Tally}
use Rattle.study_scans.specs.Fold.{tallied, no_tally}
use Rattle.harmscan_core.specs.Texts.{body_text, boxes_text, summary_text}
use Rattle.harmscan_core.proofs.report.put_body.Goals as goal

pub returns-in-Err-clause-wrote : goal.returns-in-Err-clause-wrote
unfolding body_text
returns-in-Err-clause-wrote g c =
    writes_stop Tally Counts (boxes_text c.args.hz no_tally c.args.walk.now.left) (summary_text c.args.scan.now (tallied no_tally c.args.walk.now.left))
    (g.O.Sink.state c.args.out.now) (g.O.Sink.state c.put_boxes.new.out) c.in-Err.fault c.in-Err.ensures.wrote
