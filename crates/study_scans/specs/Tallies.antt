-- What holds of a tally.
use Rattle.std.specs.Prelude.{ℕ, ◌+◌, ◌≤◌, Option, Some, None}
use Rattle.scan_report.specs.Rows.{IsOhms}
use Rattle.study_scans.specs.declared.counts.Tally.{Tally}
use Rattle.study_scans.specs.declared.region.Region.{Region}
use Rattle.study_scans.specs.Regions.{ohms_of_summit}

-- after so many boxes there are at most so many regions, and the open run has at most so many of each kind
abbrev pub IsRun : ℕ → ℕ → Option Region → Type 0
IsRun boxes regions None = regions ≤ boxes
IsRun boxes regions (Some run) = ((regions + 1) ≤ boxes) × (run.peaks ≤ boxes) × (run.undecided ≤ boxes) × IsOhms (ohms_of_summit run.summit)

-- there are at most as many boxes of each kind as boxes, and the run is one
pub record IsTally (t : Tally) : Type 0 where
  pub cleared : t.counts.cleared ≤ t.counts.boxes
  pub peaks : t.counts.peaks ≤ t.counts.boxes
  pub undecided : t.counts.undecided ≤ t.counts.boxes
  pub run : IsRun t.counts.boxes t.regions t.run
