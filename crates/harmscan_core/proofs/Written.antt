-- What a report that was put says.
use Rattle.std.proofs.Common.{◌≡◌, ◌∙◌, inr, ℕ, List, Err, ap, sym, subst}
use Rattle.harm_io.specs.Sinks.{SinkState, took, Writes}
use Rattle.harm_io.specs.declared.sink.PutFault.{PutFault}
use Rattle.harm_io.specs.declared.sink.PutFault.TheVariants.{Failed, NoMemory}
use Rattle.study_model.specs.Lawful.{IsLawful}
use Rattle.study_model.specs.declared.records.Study.{Study}
use Rattle.study_networks.specs.Networks.{AreNetworksOf}
use Rattle.study_networks.specs.declared.networks.StudyNetworks.{StudyNetworks}
use Rattle.study_scans.specs.Plan.{IsPlan}
use Rattle.study_scans.specs.Report.{report_text}
use Rattle.study_scans.specs.Scan.{test_of}
use Rattle.study_scans.specs.declared.plan.PlannedScan.{PlannedScan}
use Rattle.harmscan_core.specs.Plans.{AreReady, plan_status}
use Rattle.harmscan_core.specs.Subject.{Subject, scanned, text_for}
use Rattle.harmscan_core.specs.Texts.{whole_text}
use Rattle.harmscan_core.specs.Outcome.{IsReported, Reports, outcome_of_put}
use Rattle.harmscan_core.specs.declared.outcome.Outcome.{Outcome}
use Rattle.study_scans.proofs.Boxes.{scan_texts}
use Rattle.study_scans.proofs.Holds.{study_holds}
use Rattle.harmscan_core.proofs.WholeReport.{plan_shows, whole_report, plan_ready}

-- a report that wasn't taken whole
pub not_taken : (A : Type 0) (subject : Subject) (out out' : SinkState) (fault : PutFault) (o : Outcome) → Writes {A = A} (text_for subject) out out' (Err fault) → o ≡ outcome_of_put fault → Reports subject out out' o
not_taken A subject out out' Failed o h e = subst (Reports subject out out') (sym e) h
not_taken A subject out out' NoMemory o h e = subst (Reports subject out out') (sym e) (inr h)

-- ---- the report of a study
pub ready : {E : Type 0} (study : Study) (plan : List (PlannedScan E)) → IsLawful study → IsPlan study plan → AreReady study plan
ready study plan lawful is = plan_ready (test_of study) study plan lawful (λ scan s. scan_texts study scan lawful s) is

text_is : {E : Type 0} (study : Study) (plan : List (PlannedScan E)) → IsPlan study plan → whole_text study plan ≡ report_text study
unfolding report_text
text_is study plan is = whole_report (test_of study) study plan is

pub is_reported : {E : Type 0} (study : Study) (networks : StudyNetworks) (plan : List (PlannedScan E)) (status : ℕ) (out out' : SinkState) → IsLawful study → AreNetworksOf study networks → IsPlan study plan
    → status ≡ plan_status plan → out' ≡ took out (whole_text study plan) → IsReported (scanned study) status out out'
is_reported study networks plan status out out' lawful are is shows wrote = record {
  status_is = shows ∙ plan_shows (test_of study) study plan is;
  written = wrote ∙ ap (took out) (text_is study plan is);
  claim = study_holds study networks lawful are;
}

pub not_reported : {E : Type 0} (study : Study) (plan : List (PlannedScan E)) (out out' : SinkState) (fault : PutFault) (o : Outcome) → IsPlan study plan → Writes {A = ℕ} (whole_text study plan) out out' (Err fault)
    → o ≡ outcome_of_put fault → Reports (scanned study) out out' o
not_reported study plan out out' fault o is h e = not_taken ℕ (scanned study) out out' fault o (subst (λ (t : List ℕ). Writes {A = ℕ} t out out' (Err fault)) (text_is study plan is) h) e
