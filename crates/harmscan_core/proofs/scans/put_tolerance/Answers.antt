use Rattle.std.proofs.Common.{ℕ, List, Err, length, subst}
use Rattle.harm_io.specs.Sinks.{Writes}
use Rattle.harm_io.proofs.Writing.{writes_stop}
use Rattle.study_model.specs.declared.records.Tolerance.{Tolerance}
use Rattle.harmscan_core.specs.Texts.{tolerant_text, entries_text, whole_text}
use Rattle.harmscan_core.proofs.scans.put_tolerance.Goals as goal

pub returns-in-Err-clause-wrote : goal.returns-in-Err-clause-wrote
unfolding tolerant_text
returns-in-Err-clause-wrote g c =
    let before = g.O.Sink.state c.args.out.now in
    let now = g.O.Sink.state c.put_entries.new.out in
    writes_stop (Unit {0}) ℕ (entries_text (length c.args.study.now.tolerances)) (whole_text c.args.study.now c.args.plan.now.items) before now c.in-Err.fault
    (subst (λ (ts : List Tolerance). Writes {A = Unit {0}} (entries_text (length ts)) before now (Err c.in-Err.fault)) c.as_slice.ensures c.in-Err.ensures)
