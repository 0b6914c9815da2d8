-- The plans whose reports are put.
use Rattle.std.specs.Prelude.{ℕ, ◌<◌, List, [], ◌∷◌, length}
use Rattle.std.specs.List.{AllByRecursion}
use Rattle.band_subdivision.specs.BoxText.{HasText}
use Rattle.study_model.specs.Lawful.{IsLawfulScan}
use Rattle.study_model.specs.declared.records.Study.{Study}
use Rattle.study_scans.specs.Fold.{most_boxes, tallied, no_tally, found_too, nothing_found, status_of}
use Rattle.study_scans.specs.declared.counts.Found.{Found}
use Rattle.study_scans.specs.declared.plan.PlannedScan.{PlannedScan}

-- a scan of a study whose boxes have texts, and are few
pub record IsReady {E : Type 0} (study : Study) (planned : PlannedScan E) : Type 0 where
  pub lawful : IsLawfulScan study.version study.model study.buses planned.scan
  pub texts : AllByRecursion HasText planned.walk.left
  pub few : length planned.walk.left < most_boxes

-- so it is of each scan of a plan
abbrev pub AreReady : {E : Type 0} → Study → List (PlannedScan E) → Type 0
AreReady study plan = AllByRecursion (IsReady study) plan

-- what is found in all scans of a plan together
abbrev pub found_among : {E : Type 0} → Found → List (PlannedScan E) → Found
found_among f [] = f
found_among f (planned ∷ plan) = found_among (found_too f (tallied no_tally planned.walk.left).counts) plan

-- the status by what is found in them
unfoldable pub plan_status : {E : Type 0} → List (PlannedScan E) → ℕ
plan_status plan = status_of (found_among nothing_found plan)
