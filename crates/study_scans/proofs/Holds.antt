-- What a report claims of a study holds.
use Rattle.std.proofs.Common.{◌≡◌, ℕ, unsigned_abs, List, [], ◌∷◌}
use Rattle.std.specs.List.{AllByRecursion}
use Rattle.std.proofs.lemmas.List.Elements.{recursion_from_All}
use Rattle.band_subdivision.specs.ScanSpec.{widths_of}
use Rattle.band_subdivision.proofs.Covering.{boxes_cover}
use Rattle.band_subdivision.proofs.Scans.{some_width}
use Rattle.band_subdivision.proofs.Splits.{boxes_come}
use Rattle.band_subdivision.proofs.Truths.{boxes_are_true}
use Rattle.study_model.specs.Lawful.{IsLawful, IsLawfulScan}
use Rattle.study_model.specs.declared.records.ScanItem.{ScanItem}
use Rattle.study_model.specs.declared.records.Study.{Study}
use Rattle.study_networks.specs.Networks.{AreNetworksOf}
use Rattle.study_networks.specs.declared.networks.StudyNetworks.{StudyNetworks}
use Rattle.study_scans.specs.Claim.{BoxesHold, HoldsOfScan, HoldsOfStudy, looked_at}
use Rattle.study_scans.specs.Scan.{spec_of, test_of, boxes_for}
use Rattle.study_scans.proofs.Asked.{spec_in_range, band_testable}
use Rattle.study_scans.proofs.Sound.{scan_is_sound}

pub boxes_hold : BoxesHold
boxes_hold seen test spec s sound = record {
  covers = boxes_cover test (widths_of spec) _ _ (some_width _ s) s.band;
  true_boxes = boxes_are_true _ _ test (widths_of spec) _ _ sound (some_width _ s) s.locate s.band (band_testable spec s);
}

pub scan_holds : (study : Study) (networks : StudyNetworks) (scan : ScanItem) → IsLawful study → AreNetworksOf study networks → IsLawfulScan study.version study.model study.buses scan → HoldsOfScan study scan
unfolding boxes_for
scan_holds study networks scan b are s =
    let r = spec_in_range study scan b s in
    record {
      boxes = boxes_hold (looked_at study scan) (test_of study scan) (spec_of study scan) r (scan_is_sound study networks scan b are s);
      split_boxes = boxes_come (test_of study scan) (widths_of (spec_of study scan)) _ _ (some_width _ r) r.band;
    }

all_hold : (study : Study) (networks : StudyNetworks) (scans : List ScanItem) → IsLawful study → AreNetworksOf study networks → AllByRecursion (IsLawfulScan study.version study.model study.buses) scans
    → AllByRecursion (HoldsOfScan study) scans
all_hold study networks [] b are all = tt
all_hold study networks (scan ∷ scans) b are all = (scan_holds study networks scan b are all.0, all_hold study networks scans b are all.1)

pub study_holds : (study : Study) (networks : StudyNetworks) → IsLawful study → AreNetworksOf study networks → HoldsOfStudy study
study_holds study networks b are = all_hold study networks study.scans b are (recursion_from_All (IsLawfulScan study.version study.model study.buses) study.scans b.scans)
