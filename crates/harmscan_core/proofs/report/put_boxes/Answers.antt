use Rattle.std.proofs.Common.{◌≡◌, suc, ◌∷◌, List, length, subst, sym, ap, ◌∙◌, arith}
use Rattle.std.specs.List.{AllByRecursion}
use Rattle.harm_io.proofs.Writing.{WroteFront}
use Rattle.scan_report.specs.declared.boxes.BoxRow.{BoxRow}
use Rattle.band_subdivision.specs.BoxText.{HasText}
use Rattle.study_scans.specs.Fold.{tally_more, tallied, no_tally}
use Rattle.study_scans.specs.Tallies.{IsTally}
use Rattle.harmscan_core.specs.Texts.{boxes_text}
use Rattle.study_scans.specs.declared.counts.Tally.{Tally}
use Rattle.study_scans.proofs.Tallies.{Counts≤, count_grows, tally_grows}
use Rattle.harmscan_core.proofs.Rows.{boxes_next, boxes_stop, boxes_end, end_stop}
use Rattle.harmscan_core.proofs.report.put_boxes.Goals as goal

pub boxes-preserved : goal.boxes-preserved
boxes-preserved g c =
    let found = c.in-Some.found in
    let tally = c.boxes.tally in
    let rest = c.next_box.new.self.left in
    let step : c.boxes.walk.left ≡ found ∷ rest = c.in-Some.ensures.next in
    let text : AllByRecursion HasText (found ∷ rest) = subst (λ (l : List BoxRow). AllByRecursion HasText l) step c.boxes.invariant.text in
    let more : tally_more found tally ≡ c.tally_more-tally.result = sym c.tally_more-tally.ensures in
    let grows : Counts≤ tally.counts (tally_more found tally).counts = count_grows found.kind tally.counts in
    let boxes : (tally_more found tally).counts.boxes ≡ c.tally_more-tally.result.counts.boxes = ap (λ (t : Tally). t.counts.boxes) more in
    let shorter : length c.boxes.walk.left ≡ suc (length rest) = ap length step in
    record {
      text = text.1;
      few = omega (arith, grows.boxes, boxes, shorter, c.boxes.invariant.few);
      tally = subst IsTally more (tally_grows found tally text.0 c.boxes.invariant.tally);
      counts = ap (λ (t : Tally). tallied t rest) (sym more) ∙ sym (ap (tallied tally) step) ∙ c.boxes.invariant.counts;
      wrote = subst (λ (t : Tally). WroteFront (g.O.Sink.state c.args.out.now) (g.O.Sink.state c.put_step.new.out) (boxes_text c.args.hz t rest) (boxes_text c.args.hz no_tally c.args.walk.now.left)) more
          (boxes_next (g.O.Sink.state c.args.out.now) (g.O.Sink.state c.boxes.out) (g.O.Sink.state c.put_step.new.out) c.args.hz tally c.boxes.walk.left found rest
          (boxes_text c.args.hz no_tally c.args.walk.now.left) step c.boxes.invariant.wrote c.in-Ok.ensures);
    }

pub returns-in-Err-clause-wrote : goal.returns-in-Err-clause-wrote
returns-in-Err-clause-wrote g c =
    boxes_stop (Unit {0}) Tally (g.O.Sink.state c.args.out.now) (g.O.Sink.state c.boxes.out) (g.O.Sink.state c.put_step.new.out) c.args.hz c.boxes.tally
    c.boxes.walk.left c.in-Some.found c.next_box.new.self.left (boxes_text c.args.hz no_tally c.args.walk.now.left) c.in-Err.fault
    c.in-Some.ensures.next c.boxes.invariant.wrote c.in-Err.ensures

pub returns-in-Ok-put_open-clause-wrote : goal.returns-in-Ok-put_open-clause-wrote
returns-in-Ok-put_open-clause-wrote g c =
    boxes_end (g.O.Sink.state c.args.out.now) (g.O.Sink.state c.boxes.out) (g.O.Sink.state c.put_open.new.out) c.args.hz c.boxes.tally c.boxes.walk.left
    (boxes_text c.args.hz no_tally c.args.walk.now.left) c.in_default.ensures.none.0 c.boxes.invariant.wrote c.in-Ok-put_open.ensures

pub returns-in-Err-put_open-clause-wrote : goal.returns-in-Err-put_open-clause-wrote
returns-in-Err-put_open-clause-wrote g c =
    end_stop (Unit {0}) Tally (g.O.Sink.state c.args.out.now) (g.O.Sink.state c.boxes.out) (g.O.Sink.state c.put_open.new.out) c.args.hz c.boxes.tally c.boxes.walk.left
    (boxes_text c.args.hz no_tally c.args.walk.now.left) c.in-Err-put_open.fault c.in_default.ensures.none.0 c.boxes.invariant.wrote c.in-Err-put_open.ensures
