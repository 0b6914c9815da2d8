-- What a report within tolerances says that was put.
use Rattle.std.proofs.Common.{◌≡◌, ◌∙◌, ◌≤◌, ◌<◌, ◌^◌, ◌++◌, ℕ, List, length, Err, ap, subst, arith}
use Rattle.std.specs.List.{AllByRecursion}
use Rattle.harm_io.specs.Sinks.{SinkState, took, Writes}
use Rattle.harm_io.specs.declared.sink.PutFault.{PutFault}
use Rattle.band_subdivision.specs.BoxText.{HasText}
use Rattle.scan_report.specs.Rows.{row_text}
use Rattle.scan_report.specs.declared.rows.Row.TheVariants.{Tolerance}
use Rattle.study_model.specs.Lawful.{IsLawful, IsLawfulScan}
use Rattle.study_model.specs.declared.records.ScanItem.{ScanItem}
use Rattle.study_model.specs.declared.records.Study.{Study}
use Rattle.study_networks.specs.Scanned.{scanned_node}
use Rattle.study_scans.specs.Plan.{IsPlanBy}
use Rattle.study_scans.specs.Scan.{spec_of, boxes_for}
use Rattle.study_scans.specs.declared.plan.PlannedScan.{PlannedScan}
use Rattle.study_scans.proofs.Asked.{spec_in_range}
use Rattle.study_scans.proofs.Boxes.{texts_over, small_scale}
use Rattle.tolerance_scan.specs.Claim.{HoldsOfTolerances}
use Rattle.tolerance_scan.specs.Report.{lowered, raised, tolerance_test}
use Rattle.harmscan_core.specs.Outcome.{IsReported, Reports, outcome_of_put}
use Rattle.harmscan_core.specs.Plans.{AreReady, plan_status}
use Rattle.harmscan_core.specs.Subject.{within_tolerances}
use Rattle.harmscan_core.specs.Texts.{entries_text, whole_text, tolerant_text}
use Rattle.harmscan_core.specs.Tolerances.{tolerance_text}
use Rattle.harmscan_core.specs.declared.outcome.Outcome.{Outcome}
use Rattle.harmscan_core.proofs.WholeReport.{plan_shows, whole_report, plan_ready}
use Rattle.harmscan_core.proofs.Written.{not_taken}

-- the boxes within tolerances have texts
texts_within : (study : Study) (scan : ScanItem) → IsLawful study → IsLawfulScan study.version study.model study.buses scan → AllByRecursion HasText (boxes_for (tolerance_test study) study scan)
unfolding boxes_for tolerance_test
texts_within study scan b s =
    texts_over study.scale (spec_of study scan) (lowered study scan) (raised study scan) (scanned_node scan) (small_scale study.scale b.scale) (spec_in_range study scan b s)

pub ready : {E : Type 0} (study : Study) (plan : List (PlannedScan E)) → IsLawful study → IsPlanBy (tolerance_test study) study plan → AreReady study plan
ready study plan lawful is = plan_ready (tolerance_test study) study plan lawful (λ scan s. texts_within study scan lawful s) is

text_is : {E : Type 0} (study : Study) (plan : List (PlannedScan E)) → IsPlanBy (tolerance_test study) study plan → tolerant_text study plan ≡ tolerance_text study
unfolding tolerant_text tolerance_text entries_text
text_is study plan is = ap (λ (t : List ℕ). row_text (Tolerance (length study.tolerances)) ++ t) (whole_report (tolerance_test study) study plan is)

pub is_reported : {E : Type 0} (study : Study) (plan : List (PlannedScan E)) (status : ℕ) (out out' : SinkState) → HoldsOfTolerances study → IsPlanBy (tolerance_test study) study plan
    → status ≡ plan_status plan → out' ≡ took out (tolerant_text study plan) → IsReported (within_tolerances study) status out out'
is_reported study plan status out out' holds is shows wrote = record {
  status_is = shows ∙ plan_shows (tolerance_test study) study plan is;
  written = wrote ∙ ap (took out) (text_is study plan is);
  claim = holds;
}

pub not_reported : {E : Type 0} (study : Study) (plan : List (PlannedScan E)) (out out' : SinkState) (fault : PutFault) (o : Outcome) → IsPlanBy (tolerance_test study) study plan
    → Writes {A = ℕ} (tolerant_text study plan) out out' (Err fault) → o ≡ outcome_of_put fault → Reports (within_tolerances study) out out' o
not_reported study plan out out' fault o is h e =
    not_taken ℕ (within_tolerances study) out out' fault o (subst (λ (t : List ℕ). Writes {A = ℕ} t out out' (Err fault)) (text_is study plan is) h) e
