-- The report of a plan.
use Rattle.std.proofs.Common.{◌≡◌, ◌∙◌, ◌<◌, ℕ, List, [], ◌∷◌, ◌++◌, length, ap, sym, refl, subst, append-nil}
use Rattle.std.specs.List.{AllByRecursion}
use Rattle.std.proofs.lemmas.List.Elements.{recursion_from_All}
use Rattle.band_subdivision.specs.Boxes.{BoxTest}
use Rattle.band_subdivision.specs.BoxText.{HasText}
use Rattle.scan_report.specs.Rows.{row_text}
use Rattle.scan_report.specs.declared.boxes.BoxRow.{BoxRow}
use Rattle.scan_report.specs.declared.rows.Row.{Row}
use Rattle.scan_report.specs.declared.rows.Row.TheVariants.{End}
use Rattle.study_model.specs.Lawful.{IsLawful, IsLawfulScan}
use Rattle.study_model.specs.declared.records.ScanItem.{ScanItem}
use Rattle.study_model.specs.declared.records.Study.{Study}
use Rattle.study_scans.specs.Scan.{boxes_for}
use Rattle.scan_report.specs.Reading.{text_of}
use Rattle.study_scans.specs.Regions.{parts_of}
use Rattle.study_scans.specs.Report.{rows_of_parts, head_row, summary_of, scan_rows, status_by, rows_of_scans, rows_by}
use Rattle.study_scans.specs.Fold.{most_boxes, folded_rows, tallied, no_tally, found_too, found_in, nothing_found, status_of}
use Rattle.study_scans.specs.Plan.{IsPlannedBy, IsPlanBy}
use Rattle.study_scans.specs.declared.counts.Found.{Found}
use Rattle.study_scans.specs.declared.plan.PlannedScan.{PlannedScan}
use Rattle.study_scans.proofs.Boxes.{scan_few}
use Rattle.study_scans.proofs.Folds.{rows_are, summary_is, found_is}
use Rattle.study_scans.proofs.Plans.{scans_of}
use Rattle.study_scans.proofs.Walks.{walk_boxes}
use Rattle.harmscan_core.proofs.Rows.{text_of-both}
use Rattle.harmscan_core.specs.Plans.{IsReady, AreReady, found_among, plan_status}
use Rattle.harmscan_core.specs.Texts.{head_text, boxes_text, summary_text, end_text, body_text, scan_text, plan_text, whole_text}

one_row : (x : Row) → text_of (x ∷ []) ≡ row_text x
one_row x = append-nil (row_text x)

scan_rows_text : (tests : ScanItem → BoxTest) (study : Study) (scan : ScanItem) → text_of (scan_rows tests study scan) ≡ scan_text study scan (boxes_for tests study scan)
unfolding scan_rows scan_text head_text body_text boxes_text summary_text
scan_rows_text tests study scan =
    let boxes = boxes_for tests study scan in
    let rows = rows_of_parts study.hz 1 1 (parts_of boxes) in
    let front : List ℕ → List ℕ = λ t. row_text (head_row study scan) ++ t in
    ap front (text_of-both rows (summary_of scan boxes ∷ []) ∙ ap (λ (t : List ℕ). text_of rows ++ t) (one_row (summary_of scan boxes)))
    ∙ ap (λ (l : List Row). front (text_of l ++ row_text (summary_of scan boxes))) (sym (rows_are study.hz boxes))
    ∙ ap (λ (r : Row). front (text_of (folded_rows study.hz no_tally boxes) ++ row_text r)) (sym (summary_is scan boxes))

-- the rows of a plan by its tests
plan_rows_text : {E : Type 0} (tests : ScanItem → BoxTest) (study : Study) (plan : List (PlannedScan E)) → AllByRecursion (IsPlannedBy tests study) plan
    → plan_text study plan ≡ text_of (rows_of_scans tests study (scans_of plan))
plan_rows_text tests study [] each = refl
plan_rows_text tests study (planned ∷ plan) each =
    let scan = planned.scan in
    let boxes = boxes_for tests study scan in
    ap (λ (l : List BoxRow). scan_text study scan l ++ plan_text study plan) (walk_boxes tests study scan planned.walk each.0)
    ∙ ap (λ (t : List ℕ). scan_text study scan boxes ++ t) (plan_rows_text tests study plan each.1)
    ∙ ap (λ (t : List ℕ). t ++ text_of (rows_of_scans tests study (scans_of plan))) (sym (scan_rows_text tests study scan))
    ∙ sym (text_of-both (scan_rows tests study scan) (rows_of_scans tests study (scans_of plan)))

-- what is found in it
plan_found : {E : Type 0} (tests : ScanItem → BoxTest) (study : Study) (f : Found) (plan : List (PlannedScan E)) → AllByRecursion (IsPlannedBy tests study) plan
    → found_among f plan ≡ found_in tests study f (scans_of plan)
plan_found tests study f [] each = refl
plan_found tests study f (planned ∷ plan) each =
    plan_found tests study (found_too f (tallied no_tally planned.walk.left).counts) plan each.1
    ∙ ap (λ (l : List BoxRow). found_in tests study (found_too f (tallied no_tally l).counts) (scans_of plan)) (walk_boxes tests study planned.scan planned.walk each.0)

-- its status is that of a report by its tests
pub plan_shows : {E : Type 0} (tests : ScanItem → BoxTest) (study : Study) (plan : List (PlannedScan E)) → IsPlanBy tests study plan → plan_status plan ≡ status_by tests study
unfolding plan_status status_by
plan_shows tests study plan is =
    ap status_of (plan_found tests study nothing_found plan is.each ∙ ap (found_in tests study nothing_found) is.scans ∙ found_is tests study)

-- and its text is that report's
pub whole_report : {E : Type 0} (tests : ScanItem → BoxTest) (study : Study) (plan : List (PlannedScan E)) → IsPlanBy tests study plan → whole_text study plan ≡ text_of (rows_by tests study)
unfolding whole_text end_text
whole_report tests study plan is =
    let rows = rows_of_scans tests study study.scans in
    ap (λ (t : List ℕ). t ++ row_text (End (plan_status plan))) (plan_rows_text tests study plan is.each ∙ ap (λ (l : List ScanItem). text_of (rows_of_scans tests study l)) is.scans)
    ∙ ap (λ (s : ℕ). text_of rows ++ row_text (End s)) (plan_shows tests study plan is)
    ∙ ap (λ (t : List ℕ). text_of rows ++ t) (sym (one_row (End (status_by tests study))))
    ∙ sym (text_of-both rows (End (status_by tests study) ∷ []))

-- ---- it can be put
-- the boxes of each scan by these tests have texts
abbrev pub HaveTexts : (ScanItem → BoxTest) → Study → Type 0
HaveTexts tests study = (scan : ScanItem) → IsLawfulScan study.version study.model study.buses scan → AllByRecursion HasText (boxes_for tests study scan)

all_ready : {E : Type 0} (tests : ScanItem → BoxTest) (study : Study) (plan : List (PlannedScan E)) → IsLawful study → HaveTexts tests study
    → AllByRecursion (IsLawfulScan study.version study.model study.buses) (scans_of plan) → AllByRecursion (IsPlannedBy tests study) plan → AreReady study plan
all_ready tests study [] b texts lawful each = tt
all_ready tests study (planned ∷ plan) b texts lawful each =
    let boxes = sym (walk_boxes tests study planned.scan planned.walk each.0) in (
      record {
        lawful = lawful.0;
        texts = subst (AllByRecursion HasText) boxes (texts planned.scan lawful.0);
        few = subst (λ (l : List BoxRow). length l < most_boxes) boxes (scan_few tests study planned.scan b lawful.0);
      },
      all_ready tests study plan b texts lawful.1 each.1,
    )

pub plan_ready : {E : Type 0} (tests : ScanItem → BoxTest) (study : Study) (plan : List (PlannedScan E)) → IsLawful study → HaveTexts tests study → IsPlanBy tests study plan → AreReady study plan
plan_ready tests study plan b texts is =
    let lawful = recursion_from_All (IsLawfulScan study.version study.model study.buses) study.scans b.scans in
    all_ready tests study plan b texts (subst (AllByRecursion (IsLawfulScan study.version study.model study.buses)) (sym is.scans) lawful) is.each
