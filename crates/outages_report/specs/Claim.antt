-- What the report on outages claims of a study.
use Rattle.std.specs.Prelude.{◌≡◌, ℕ, ◌-◌, false, length, count_by, unsigned_abs}
use Rattle.std.specs.List.{AllByRecursion, list_any}
use Rattle.band_subdivision.specs.ScanSpec.{widths_of}
use Rattle.band_subdivision.specs.Split.{ComesFrom}
use Rattle.band_subdivision.specs.Truth.{Scanned, IsClearedBox}
use Rattle.sequence_network.specs.Networks.{added_to, bus_nodes}
use Rattle.phase_network.specs.Phases.{phases_added, phase_buses}
use Rattle.study_model.specs.Elements.{elements_of}
use Rattle.study_model.specs.declared.records.ScanItem.{ScanItem}
use Rattle.study_model.specs.declared.records.Study.{Study}
use Rattle.study_model.specs.declared.words.StudyModel.{StudyModel}
use Rattle.study_model.specs.declared.words.StudyModel.TheVariants as study_model
use Rattle.study_networks.specs.Scanned.{scanned_node}
use Rattle.study_scans.specs.Claim.{looked_over, HoldsOfBoxes}
use Rattle.study_scans.specs.Scan.{spec_of}
use Rattle.study_variants.specs.Outages.{IsWithoutElement}
use Rattle.outages_report.specs.Cases.{case_network, case_test, case_boxes, is_cleared_case}
use Rattle.outages_report.specs.Envelopes.{scan_cases}
use Rattle.outages_report.specs.Floating.{floats}

-- what a case looks at: the node of its scan, in the scan's network without the element of a number, with the scan's threshold
abbrev pub case_look : Study → ℕ → ScanItem → Scanned
case_look study number scan = looked_over (spec_of study scan) (case_network study number scan) (scanned_node scan)

-- that network has no branch of the element, and each other element has exactly the branches that it adds to the study's
abbrev pub KeepsOthersIn : StudyModel → Study → ℕ → ScanItem → Type 0
KeepsOthersIn study_model.Sequence study number scan = IsWithoutElement (added_to study scan.network) (bus_nodes study) (elements_of study) (number - 1) (case_network study number scan)
KeepsOthersIn study_model.Phases study number scan = IsWithoutElement (phases_added study) (phase_buses study) (elements_of study) (number - 1) (case_network study number scan)

-- So it is in a case; its boxes cover the band without a gap, what each says is true in that network, and each band that was split on the way to one failed
-- the test.
pub record HoldsOfCase (study : Study) (number : ℕ) (scan : ScanItem) : Type 0 where
  pub others : KeepsOthersIn study.model study number scan
  pub boxes : HoldsOfBoxes (case_look study number scan) (case_test study number scan) (spec_of study scan) (case_boxes study number scan)
  pub split_boxes : AllByRecursion (ComesFrom (case_test study number scan) (widths_of (spec_of study scan)) (unsigned_abs scan.from) (unsigned_abs scan.to)) (case_boxes study number scan)

-- no outage floats, and as many of a scan's cases are cleared as it has
pub record AreAllCleared (study : Study) (scan : ScanItem) : Type 0 where
  pub fed : list_any (λ outage. floats study outage.element) study.outages ≡ false
  pub cleared : count_by is_cleared_case (scan_cases study scan study.outages) ≡ length (scan_cases study scan study.outages)

-- at every order of a scan's band the impedance exists and is within the threshold in the network without each listed element
abbrev pub IsSafe : Study → ScanItem → Type 0
IsSafe study scan = AllByRecursion (λ outage. IsClearedBox (case_look study outage.element scan) (unsigned_abs scan.from) (unsigned_abs scan.to)) study.outages

-- what the boxes of each case say holds, and a scan whose cases are all cleared, while no outage floats, is safe
pub record HoldsOfOutages (study : Study) : Type 0 where
  pub cases : AllByRecursion (λ outage. AllByRecursion (HoldsOfCase study outage.element) study.scans) study.outages
  pub safe : AllByRecursion (λ scan. AreAllCleared study scan → IsSafe study scan) study.scans
