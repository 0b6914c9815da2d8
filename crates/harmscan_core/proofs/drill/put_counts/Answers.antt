use Rattle.std.proofs.Common.{ℕ, Err, subst}
use Rattle.harm_io.specs.Sinks.{Writes}
use Rattle.harm_io.proofs.Writing.{writes_stop}
use Rattle.study_scans.specs.declared.counts.Counts.{Counts}
use Rattle.study_scans.specs.declared.counts.Tally.{Tally}
use Rattle.study_scans.specs.Fold.{tallied, no_tally, counted_status}
use Rattle.harmscan_core.specs.Texts.{counts_text, summary_text, end_text}
use Rattle.harmscan_core.proofs.drill.put_counts.Goals as goal

pub returns-in-Err-clause-wrote : goal.returns-in-Err-clause-wrote
unfolding counts_text
returns-in-Err-clause-wrote g c =
    let left = c.args.walk.now.left in
    let before = g.O.Sink.state c.args.out.now in
    let now = g.O.Sink.state c.put_summary.new.out in
    writes_stop Counts ℕ (summary_text c.args.scan.now (tallied no_tally left)) (end_text (counted_status left)) before now c.in-Err.fault
    (subst (λ (t : Tally). Writes {A = Counts} (summary_text c.args.scan.now t) before now (Err c.in-Err.fault)) c.tally_of-tally.ensures.tally c.in-Err.ensures.wrote)
