-- The walk of a case, and its boxes.
use Rattle.std.proofs.Common.{◌≡◌, ◌∙◌, ◌<◌, ℕ, length, ap, subst, refl}
use Rattle.std.specs.Prelude.{Result, IfOk}
use Rattle.std.specs.List.{AllByRecursion}
use Rattle.network_theory.specs.Network.{Network, IsWhole}
use Rattle.net_branch.specs.declared.network.Network.{Network as BuiltNetwork}
use Rattle.band_subdivision.specs.BoxText.{HasText}
use Rattle.band_subdivision.specs.Scan.{Scanning}
use Rattle.band_subdivision.specs.declared.scan_spec.ScanSpec.{ScanSpec}
use Rattle.study_model.specs.Lawful.{IsLawful, IsLawfulScan}
use Rattle.study_model.specs.declared.records.ScanItem.{ScanItem}
use Rattle.study_model.specs.declared.records.Study.{Study}
use Rattle.study_model.specs.declared.words.Sequence.{Sequence}
use Rattle.study_model.specs.declared.words.Sequence.TheVariants.{Positive, Zero}
use Rattle.study_networks.specs.Networks.{AreNetworksOf}
use Rattle.study_networks.specs.Scanned.{scanned_network, scanned_node}
use Rattle.study_networks.specs.declared.networks.StudyNetworks.{StudyNetworks}
use Rattle.study_networks.specs.declared.networks.StudyNetworks.TheVariants.{Sequences, Phases}
use Rattle.study_networks.proofs.Models.{IsScannedIn, phases_scanned, positive_scanned, zero_scanned}
use Rattle.study_scans.specs.Fold.{most_boxes}
use Rattle.study_scans.specs.Scan.{spec_of}
use Rattle.study_scans.specs.Walk.{IsWalkBy, IsWalkOver}
use Rattle.study_scans.proofs.Asked.{spec_in_range}
use Rattle.study_scans.proofs.Boxes.{texts_over, few_by, small_scale}
use Rattle.study_variants.specs.Outages.{without}
use Rattle.study_variants.proofs.LeftBranches.{outage_exact, outage_whole}
use Rattle.outages_report.specs.Cases.{case_network, case_test, case_boxes}

-- ---- the network
without_whole : (study : Study) (number : ℕ) (scan : ScanItem) (network : BuiltNetwork) → IsScannedIn study scan network → IsWhole (case_network study number scan)
without_whole study number scan network is = subst IsWhole (outage_exact number network ∙ ap (without number) is.exact) (outage_whole number network is.whole).exact

whole_in : (study : Study) (networks : StudyNetworks) (number : ℕ) (scan : ScanItem) (sequence : Sequence) → scan.network ≡ sequence → AreNetworksOf study networks
    → IsLawfulScan study.version study.model study.buses scan → IsWhole (case_network study number scan)
whole_in study (Phases network) number scan sequence e are s = without_whole study number scan network (phases_scanned study network scan are s)
whole_in study (Sequences networks) number scan Positive e are s = without_whole study number scan networks.positive (positive_scanned study networks scan are s e)
whole_in study (Sequences networks) number scan Zero e are s = without_whole study number scan networks.zero (zero_scanned study networks scan are s e)

pub case_whole : (study : Study) (networks : StudyNetworks) (number : ℕ) (scan : ScanItem) → AreNetworksOf study networks → IsLawfulScan study.version study.model study.buses scan
    → IsWhole (case_network study number scan)
case_whole study networks number scan are s = whole_in study networks number scan scan.network refl are s

-- ---- the walk
pub case_walk : {F : Type 0} (study : Study) (number : ℕ) (scan : ScanItem) (scale : ℕ) (spec : ScanSpec) (rest whole : Network) (node : ℕ) (r : Result Scanning F) → scale ≡ study.scale
    → spec ≡ spec_of study scan → rest ≡ without number whole → whole ≡ scanned_network study scan → node ≡ scanned_node scan → IfOk r (IsWalkOver scale spec rest rest node)
    → IfOk r (IsWalkBy study.scale (spec_of study scan) (case_test study number scan))
unfolding case_test
case_walk {F} study number scan scale spec rest whole node r e asked left is at made =
    let Walks : ℕ → ScanSpec → Network → ℕ → Type 0 = λ s x n k. IfOk r (IsWalkOver s x n n k) in
    subst (λ (s : ℕ). Walks s (spec_of study scan) (case_network study number scan) (scanned_node scan)) e
    (subst (λ (x : ScanSpec). Walks scale x (case_network study number scan) (scanned_node scan)) asked
    (subst (λ (n : Network). Walks scale spec n (scanned_node scan)) (left ∙ ap (without number) is)
    (subst (λ (k : ℕ). Walks scale spec rest k) at made)))

pub walk_boxes : (study : Study) (number : ℕ) (scan : ScanItem) (walk : Scanning) → IsWalkBy study.scale (spec_of study scan) (case_test study number scan) walk → walk.left ≡ case_boxes study number scan
unfolding case_boxes
walk_boxes study number scan walk is = is.left

-- ---- the boxes
pub case_texts : (study : Study) (number : ℕ) (scan : ScanItem) → IsLawful study → IsLawfulScan study.version study.model study.buses scan → AllByRecursion HasText (case_boxes study number scan)
unfolding case_boxes case_test
case_texts study number scan h s =
    texts_over study.scale (spec_of study scan) (case_network study number scan) (case_network study number scan) (scanned_node scan) (small_scale study.scale h.scale) (spec_in_range study scan h s)

pub case_few : (study : Study) (number : ℕ) (scan : ScanItem) → IsLawful study → IsLawfulScan study.version study.model study.buses scan → length (case_boxes study number scan) < most_boxes
unfolding case_boxes
case_few study number scan h s = few_by (case_test study number scan) (spec_of study scan) (spec_in_range study scan h s)
