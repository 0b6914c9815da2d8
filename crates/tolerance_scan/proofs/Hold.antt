-- What the boxes of a study's scans say holds for all values within its tolerances.
use Rattle.std.proofs.Common.{◌≡◌, ℕ, List, [], ◌∷◌, sym, subst}
use Rattle.std.specs.Prelude.{false, true, Result, IfOk}
use Rattle.std.specs.List.{AllByRecursion}
use Rattle.std.proofs.lemmas.List.Elements.{recursion_from_All}
use Rattle.network_theory.specs.Between.{IsPair}
use Rattle.network_theory.specs.Network.{Network}
use Rattle.net_branch.specs.Exact.{exact_network}
use Rattle.net_branch.specs.declared.network.Network.{Network as BuiltNetwork}
use Rattle.band_subdivision.specs.Scan.{Scanning}
use Rattle.band_subdivision.specs.ScanSpec.{widths_of}
use Rattle.band_subdivision.specs.declared.scan_spec.ScanSpec.{ScanSpec}
use Rattle.band_subdivision.proofs.Scans.{some_width}
use Rattle.band_subdivision.proofs.Splits.{boxes_come}
use Rattle.study_model.specs.Lawful.{IsLawful, IsLawfulScan}
use Rattle.study_model.specs.declared.records.ScanItem.{ScanItem}
use Rattle.study_model.specs.declared.records.Study.{Study}
use Rattle.study_networks.specs.Networks.{AreNetworksOf}
use Rattle.study_networks.specs.Scanned.{scanned_network, scanned_node}
use Rattle.study_networks.specs.declared.networks.StudyNetworks.{StudyNetworks}
use Rattle.study_scans.specs.Claim.{looked_over}
use Rattle.study_scans.specs.Scan.{spec_of}
use Rattle.study_scans.specs.Walk.{IsWalkBy, IsWalkOver}
use Rattle.study_scans.proofs.Asked.{spec_in_range}
use Rattle.study_scans.proofs.Holds.{boxes_hold}
use Rattle.study_scans.proofs.Sound.{test_is_sound}
use Rattle.tolerance_scan.specs.Claim.{HoldsWithin, TolerancesHold}
use Rattle.tolerance_scan.specs.Report.{lowered, raised, tolerance_test}
use Rattle.tolerance_scan.specs.Widened.{widened_by}
use Rattle.tolerance_scan.proofs.Within.{IsEnd, IsWithin, scan_within}

scan_holds : (study : Study) (networks : StudyNetworks) (scan : ScanItem) → IsLawful study → AreNetworksOf study networks → IsLawfulScan study.version study.model study.buses scan → HoldsWithin study scan
unfolding lowered raised tolerance_test
scan_holds study networks scan lawful are s =
    let r = spec_in_range study scan lawful s in
    let within = scan_within study networks scan lawful are s in
    record {
      written = within.written;
      boxes = λ network between. boxes_hold (looked_over (spec_of study scan) network (scanned_node scan)) (tolerance_test study scan) (spec_of study scan) r
          (test_is_sound study.scale (spec_of study scan) (lowered study scan) (raised study scan) (scanned_node scan) network r within.whole within.pair between);
      split_boxes = boxes_come (tolerance_test study scan) (widths_of (spec_of study scan)) _ _ (some_width _ r) r.band;
    }

all_hold : (study : Study) (networks : StudyNetworks) (scans : List ScanItem) → IsLawful study → AreNetworksOf study networks → AllByRecursion (IsLawfulScan study.version study.model study.buses) scans
    → AllByRecursion (HoldsWithin study) scans
all_hold study networks [] lawful are all = tt
all_hold study networks (scan ∷ scans) lawful are all = (scan_holds study networks scan lawful are all.0, all_hold study networks scans lawful are all.1)

pub tolerances_hold : TolerancesHold
tolerances_hold study networks lawful are = all_hold study networks study.scans lawful are (recursion_from_All (IsLawfulScan study.version study.model study.buses) study.scans lawful.scans)

-- ---- the walk of a scan
-- its two networks are a pair
pub ends_pair : (study : Study) (networks : StudyNetworks) (scan : ScanItem) (low high : BuiltNetwork) → IsLawful study → AreNetworksOf study networks → IsLawfulScan study.version study.model study.buses scan
    → IsEnd false study scan low → IsEnd true study scan high → IsPair (exact_network low) (exact_network high)
ends_pair study networks scan low high lawful are s from to =
    let within = scan_within study networks scan lawful are s in
    subst (λ (n : Network). IsPair n (exact_network high)) (sym from.exact) (subst (λ (n : Network). IsPair (widened_by false study.tolerances (scanned_network study scan)) n) (sym to.exact) within.pair)

-- and it is by the test of the tolerances
pub walks_within : {F : Type 0} (study : Study) (scan : ScanItem) (scale : ℕ) (spec : ScanSpec) (low high : Network) (node : ℕ) (r : Result Scanning F) → scale ≡ study.scale → spec ≡ spec_of study scan
    → low ≡ widened_by false study.tolerances (scanned_network study scan) → high ≡ widened_by true study.tolerances (scanned_network study scan) → node ≡ scanned_node scan
    → IfOk r (IsWalkOver scale spec low high node) → IfOk r (IsWalkBy study.scale (spec_of study scan) (tolerance_test study scan))
unfolding lowered raised tolerance_test
walks_within {F} study scan scale spec low high node r e asked from to at made =
    let Walks : ℕ → ScanSpec → Network → Network → ℕ → Type 0 = λ s x n m k. IfOk r (IsWalkOver s x n m k) in
    let first = widened_by false study.tolerances (scanned_network study scan) in
    let second = widened_by true study.tolerances (scanned_network study scan) in
    subst (λ (s : ℕ). Walks s (spec_of study scan) first second (scanned_node scan)) e
    (subst (λ (x : ScanSpec). Walks scale x first second (scanned_node scan)) asked
    (subst (λ (n : Network). Walks scale spec n second (scanned_node scan)) from
    (subst (λ (n : Network). Walks scale spec low n (scanned_node scan)) to
    (subst (λ (k : ℕ). Walks scale spec low high k) at made))))
