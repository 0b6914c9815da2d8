use Rattle.std.proofs.Common.{◌≡◌, suc, ◌∷◌, List, Option, length, subst, sym, ap, ◌∙◌, arith}
use Rattle.std.specs.List.{AllByRecursion}
use Rattle.scan_report.specs.declared.boxes.BoxRow.{BoxRow}
use Rattle.band_subdivision.specs.BoxText.{HasText}
use Rattle.study_scans.specs.Fold.{tally_more, tallied}
use Rattle.study_scans.specs.Tallies.{IsTally}
use Rattle.study_scans.specs.declared.counts.Tally.{Tally}
use Rattle.study_scans.specs.declared.region.Summit.{Summit}
use Rattle.study_scans.proofs.Tallies.{Counts≤, count_grows, tally_grows}
use Rattle.outages_report.specs.Counting.{highest}
use Rattle.outages_report.proofs.case.seen_in.Goals as goal

pub boxes-preserved : goal.boxes-preserved
boxes-preserved g c =
    let found = c.in-Some.found in
    let tally = c.boxes.tally in
    let rest = c.next_box.new.self.left in
    let step : c.boxes.walk.left ≡ found ∷ rest = c.in-Some.ensures.next in
    let text : AllByRecursion HasText (found ∷ rest) = subst (λ (l : List BoxRow). AllByRecursion HasText l) step c.boxes.invariant.text in
    let more : tally_more found tally ≡ c.tally_more-tally.result = sym c.tally_more-tally.ensures in
    let grows : Counts≤ tally.counts (tally_more found tally).counts = count_grows found.kind tally.counts in
    let boxes : (tally_more found tally).counts.boxes ≡ c.tally_more-tally.result.counts.boxes = ap (λ (t : Tally). t.counts.boxes) more in
    let shorter : length c.boxes.walk.left ≡ suc (length rest) = ap length step in
    record {
      text = text.1;
      few = omega (arith, grows.boxes, boxes, shorter, c.boxes.invariant.few);
      tally = subst IsTally more (tally_grows found tally text.0 c.boxes.invariant.tally);
      counts = ap (λ (t : Tally). tallied t rest) (sym more) ∙ sym (ap (tallied tally) step) ∙ c.boxes.invariant.counts;
      summit = ap (λ (s : Option Summit). highest s rest) c.higher-summit.ensures ∙ sym (ap (highest c.boxes.summit) step) ∙ c.boxes.invariant.summit;
    }
