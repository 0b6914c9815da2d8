-- The scans of a study with their walks.
use Rattle.std.specs.Prelude.{◌≡◌, List, map}
use Rattle.std.specs.List.{AllByRecursion}
use Rattle.band_subdivision.specs.Boxes.{BoxTest}
use Rattle.study_model.specs.declared.records.ScanItem.{ScanItem}
use Rattle.study_model.specs.declared.records.Study.{Study}
use Rattle.study_scans.specs.Scan.{spec_of, test_of}
use Rattle.study_scans.specs.Walk.{IsWalkBy}
use Rattle.study_scans.specs.declared.plan.PlannedScan.{PlannedScan}

-- a scan has a new walk of its own, by its test
abbrev pub IsPlannedBy : {E : Type 0} → (ScanItem → BoxTest) → Study → PlannedScan E → Type 0
IsPlannedBy tests study planned = IsWalkBy study.scale (spec_of study planned.scan) (tests planned.scan) planned.walk

-- all scans of a study in order, each with its walk, where each scan has a test of its boxes
pub record IsPlanBy {E : Type 0} (tests : ScanItem → BoxTest) (study : Study) (plan : List (PlannedScan E)) : Type 0 where
  pub scans : map (λ planned. planned.scan) plan ≡ study.scans
  pub each : AllByRecursion (IsPlannedBy tests study) plan

-- the plan of a report
abbrev pub IsPlan : {E : Type 0} → Study → List (PlannedScan E) → Type 0
IsPlan study plan = IsPlanBy (test_of study) study plan
