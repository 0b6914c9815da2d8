-- The study of each drill is accepted, and what its report says.
use Rattle.std.proofs.Common.{◌≡◌, ◌∙◌, ◌<◌, inl, ℕ, Err, List, [], ◌∷◌, ◌++◌, length, ap, sym, subst, refl, append-nil}
use Rattle.std.specs.List.{AllByRecursion}
use Rattle.std.proofs.lemmas.List.Elements.{recursion_from_All}
use Rattle.harm_io.specs.Sinks.{SinkState, took, Writes}
use Rattle.harm_io.specs.declared.sink.PutFault.{PutFault}
use Rattle.network_theory.specs.Network.{Network}
use Rattle.band_subdivision.specs.BoxText.{HasText}
use Rattle.scan_report.specs.Rows.{row_text}
use Rattle.scan_report.specs.declared.rows.Row.{Row}
use Rattle.scan_report.specs.declared.rows.Row.TheVariants.{Drill, End}
use Rattle.scan_report.specs.declared.boxes.BoxRow.{BoxRow}
use Rattle.study_model.specs.Lawful.{IsLawful, IsLawfulScan}
use Rattle.study_model.specs.declared.words.StudyModel.TheVariants as study_model
use Rattle.study_model.specs.declared.words.Sequence.TheVariants.{Positive}
use Rattle.study_model.specs.declared.records.ScanItem.{ScanItem}
use Rattle.study_model.specs.declared.records.Study.{Study}
use Rattle.sequence_network.specs.Networks.{network_of}
use Rattle.study_networks.specs.Networks.{AreNetworksOf, HasLive, IsNetworksRefusal}
use Rattle.study_networks.specs.Scanned.{scanned_network}
use Rattle.study_networks.specs.declared.networks.StudyNetworks.{StudyNetworks}
use Rattle.study_networks.proofs.Models.{live_sequences}
use Rattle.study_networks.proofs.Refusals.{no_networks_refusal}
use Rattle.drill_study.specs.Drill.{drill_scan, drill_of}
use Rattle.drill_study.proofs.Lawful.{drill_lawful}
use Rattle.drill_study.proofs.Live.{drill_live}
use Rattle.study_scans.specs.Scan.{test_of, boxes_in}
use Rattle.study_scans.specs.Fold.{most_boxes, found_in, nothing_found, status_of, counted_status}
use Rattle.study_scans.specs.Report.{summary_of, report_status, status_by}
use Rattle.harmscan_core.specs.Drills.{drill_text}
use Rattle.harmscan_core.specs.Texts.{summary_text, end_text, drill_head_text, counts_text, counted_text}
use Rattle.study_scans.specs.Claim.{HoldsOfStudy}
use Rattle.harmscan_core.specs.Outcome.{IsReported, Reports, RefusesNetworks, outcome_of_put}
use Rattle.harmscan_core.specs.Subject.{drilled}
use Rattle.harmscan_core.specs.declared.outcome.Outcome.{Outcome}
use Rattle.harmscan_core.specs.declared.outcome.Outcome.TheVariants.{WordsRefused, ReadFailed, TooLarge, Refused, WriteFailed, NoMemory, Written}
use Rattle.study_scans.proofs.Folds.{summary_is, found_is}
use Rattle.harmscan_core.proofs.Written.{not_taken}
use Rattle.study_scans.proofs.Boxes.{scan_texts, scan_few}
use Rattle.study_scans.proofs.Holds.{study_holds}

drill_scans : (number : ℕ) → (drill_of number).scans ≡ drill_scan ∷ []
unfolding drill_of
drill_scans number = refl

pub drill_scale : (number : ℕ) → (drill_of number).scale ≡ 40
unfolding drill_of
drill_scale number = refl

drill_model : (number : ℕ) → (drill_of number).model ≡ study_model.Sequence
unfolding drill_of
drill_model number = refl

has_live : (number : ℕ) → HasLive (drill_of number)
has_live number = live_sequences (drill_of number) (drill_model number) (drill_live number)

pub is_lawful : (number : ℕ) (study : Study) → study ≡ drill_of number → IsLawful study
is_lawful number study same = subst IsLawful (sym same) (drill_lawful number)

abbrev IsLawfulScanOf : Study → ScanItem → Type 0
IsLawfulScanOf study scan = IsLawfulScan study.version study.model study.buses scan

pub scan_is_lawful : (number : ℕ) → IsLawfulScanOf (drill_of number) drill_scan
scan_is_lawful number =
    let study = drill_of number in
    let all = recursion_from_All (IsLawfulScanOf study) study.scans (drill_lawful number).scans in
    (subst (AllByRecursion (IsLawfulScanOf study)) (drill_scans number) all).0

-- a drill's networks are not refused
pub not_accepted : (number : ℕ) (study : Study) (o : Outcome) (out : SinkState) → study ≡ drill_of number → RefusesNetworks study o → Reports (drilled number) out out o
not_accepted number study NoMemory out same r = inl refl
not_accepted number study (Refused q) out same r = absurd (no_networks_refusal (drill_of number) (has_live number) r.fault (subst (λ (s : Study). IsNetworksRefusal s r.fault) same r.fails))
not_accepted number study WordsRefused out same r = absurd r
not_accepted number study (ReadFailed f) out same r = absurd r
not_accepted number study (TooLarge f) out same r = absurd r
not_accepted number study WriteFailed out same r = absurd r
not_accepted number study (Written s) out same r = absurd r

-- ---- a report of one scan
status_is : (study : Study) (scan : ScanItem) → study.scans ≡ scan ∷ [] → counted_status (boxes_in study scan) ≡ report_status study
unfolding counted_status status_by
status_is study scan one = ap (λ (l : List ScanItem). status_of (found_in (test_of study) study nothing_found l)) (sym one) ∙ ap status_of (found_is (test_of study) study)

drill_status : (number : ℕ) → counted_status (boxes_in (drill_of number) drill_scan) ≡ report_status (drill_of number)
drill_status number = status_is (drill_of number) drill_scan (drill_scans number)

-- the text that is put is the drill's
text_is : (number : ℕ) → counted_text number (network_of (drill_of number) Positive).nodes drill_scan (boxes_in (drill_of number) drill_scan) ≡ drill_text number
unfolding counted_text counts_text drill_head_text summary_text end_text drill_text
text_is number =
    let study = drill_of number in
    let boxes = boxes_in study drill_scan in
    let head = row_text (Drill number (network_of study Positive).nodes) in
    ap (λ (r : Row). head ++ (row_text r ++ row_text (End (counted_status boxes)))) (summary_is drill_scan boxes)
    ∙ ap (λ (s : ℕ). head ++ (row_text (summary_of drill_scan boxes) ++ row_text (End s))) (drill_status number)
    ∙ ap (λ (t : List ℕ). head ++ (row_text (summary_of drill_scan boxes) ++ t)) (sym (append-nil (row_text (End (report_status study)))))

pub text_is_written : (number nodes : ℕ) (scan : ScanItem) (boxes : List BoxRow) → nodes ≡ (network_of (drill_of number) Positive).nodes → scan ≡ drill_scan → boxes ≡ boxes_in (drill_of number) drill_scan
    → counted_text number nodes scan boxes ≡ drill_text number
text_is_written number nodes scan boxes same one walked =
    ap (λ (n : ℕ). counted_text number n scan boxes) same
    ∙ ap (λ (s : ScanItem). counted_text number (network_of (drill_of number) Positive).nodes s boxes) one
    ∙ ap (λ (l : List BoxRow). counted_text number (network_of (drill_of number) Positive).nodes drill_scan l) walked
    ∙ text_is number

-- ---- the walk of a drill
-- what is known of a drill's study and its scan
pub record IsDrill (study : Study) (scan : ScanItem) : Type 0 where
  pub study_lawful : IsLawful study
  pub lawful : IsLawfulScan study.version study.model study.buses scan
  pub scale : 40 ≡ study.scale

pub is_drill : (number : ℕ) (study : Study) (scan : ScanItem) → study ≡ drill_of number → scan ≡ drill_scan → IsDrill study scan
is_drill number study scan same one =
    subst (λ (s : Study). IsDrill s scan) (sym same) (subst (IsDrill (drill_of number)) (sym one) (record {
      study_lawful = drill_lawful number;
      lawful = scan_is_lawful number;
      scale = sym (drill_scale number);
    }))

-- it looks at the positive network
drill_network : (number : ℕ) → scanned_network (drill_of number) drill_scan ≡ network_of (drill_of number) Positive
unfolding scanned_network drill_of
drill_network number = refl

pub nodes_are : (number : ℕ) (study : Study) (scan : ScanItem) (network : Network) → study ≡ drill_of number → scan ≡ drill_scan → network ≡ scanned_network study scan
    → network.nodes ≡ (network_of (drill_of number) Positive).nodes
nodes_are number study scan network same one is =
    ap (λ (n : Network). n.nodes)
    (is ∙ ap (λ (s : Study). scanned_network s scan) same ∙ ap (λ (s : ScanItem). scanned_network (drill_of number) s) one ∙ drill_network number)

pub boxes_are : (number : ℕ) (study : Study) (scan : ScanItem) (boxes : List BoxRow) → study ≡ drill_of number → scan ≡ drill_scan → boxes ≡ boxes_in study scan → boxes ≡ boxes_in (drill_of number) drill_scan
boxes_are number study scan boxes same one walked = walked ∙ ap (λ (s : Study). boxes_in s scan) same ∙ ap (boxes_in (drill_of number)) one

-- the boxes of a drill have texts, and are few
pub record HaveTexts (boxes : List BoxRow) : Type 0 where
  pub texts : AllByRecursion HasText boxes
  pub few : length boxes < most_boxes

pub have_texts : (number : ℕ) (boxes : List BoxRow) → boxes ≡ boxes_in (drill_of number) drill_scan → HaveTexts boxes
have_texts number boxes same =
    subst HaveTexts (sym same) (record {
      texts = scan_texts (drill_of number) drill_scan (drill_lawful number) (scan_is_lawful number);
      few = scan_few (test_of (drill_of number)) (drill_of number) drill_scan (drill_lawful number) (scan_is_lawful number);
    })

-- ---- its report
drill_holds : (number : ℕ) (study : Study) (networks : StudyNetworks) → study ≡ drill_of number → AreNetworksOf study networks → HoldsOfStudy (drill_of number)
drill_holds number study networks same are = study_holds (drill_of number) networks (drill_lawful number) (subst (λ (s : Study). AreNetworksOf s networks) same are)

pub drill_reported : (number status : ℕ) (study : Study) (networks : StudyNetworks) (scan : ScanItem) (boxes : List BoxRow) (text : List ℕ) (out out' : SinkState) → study ≡ drill_of number → scan ≡ drill_scan → AreNetworksOf study networks
    → boxes ≡ boxes_in study scan → status ≡ counted_status boxes → text ≡ drill_text number → out' ≡ took out text → IsReported (drilled number) status out out'
drill_reported number status study networks scan boxes text out out' same one are walked shows is wrote = record {
  status_is = shows ∙ ap counted_status (boxes_are number study scan boxes same one walked) ∙ drill_status number;
  written = wrote ∙ ap (took out) is;
  claim = drill_holds number study networks same are;
}

pub drill_not_taken : (number : ℕ) (text : List ℕ) (out out' : SinkState) (fault : PutFault) (o : Outcome) → text ≡ drill_text number → Writes {A = ℕ} text out out' (Err fault) → o ≡ outcome_of_put fault
    → Reports (drilled number) out out' o
drill_not_taken number text out out' fault o is w e = not_taken ℕ (drilled number) out out' fault o (subst (λ (t : List ℕ). Writes {A = ℕ} t out out' (Err fault)) is w) e
