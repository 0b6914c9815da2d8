use Rattle.std.proofs.Common.{◌<◌, ◌∙◌, List, length, ap, sym, subst}
use Rattle.std.specs.List.{AllByRecursion}
use Rattle.band_subdivision.specs.BoxText.{HasText}
use Rattle.scan_report.specs.declared.boxes.BoxRow.{BoxRow}
use Rattle.study_scans.specs.Fold.{most_boxes}
use Rattle.outages_report.specs.Cases.{case_over}
use Rattle.outages_report.proofs.Walked.{walk_boxes, case_texts, case_few}
use Rattle.outages_report.proofs.case.case_of.Goals as goal

pub counted-requires-clause-text : goal.counted-requires-clause-text
counted-requires-clause-text g c =
    subst (λ (l : List BoxRow). AllByRecursion HasText l) (sym (walk_boxes c.args.study.now c.args.element c.args.scan.now c.in_ok-walk.walk c.in_ok-walk.ensures))
    (case_texts c.args.study.now c.args.element c.args.scan.now c.requires.study c.requires.scan)

pub counted-requires-clause-few : goal.counted-requires-clause-few
counted-requires-clause-few g c =
    subst (λ (l : List BoxRow). length l < most_boxes) (sym (walk_boxes c.args.study.now c.args.element c.args.scan.now c.in_ok-walk.walk c.in_ok-walk.ensures))
    (case_few c.args.study.now c.args.element c.args.scan.now c.requires.study c.requires.scan)

pub returns : goal.returns
returns g c = c.counted.ensures ∙ ap (case_over c.args.scan.now.name) (walk_boxes c.args.study.now c.args.element c.args.scan.now c.in_ok-walk.walk c.in_ok-walk.ensures)
