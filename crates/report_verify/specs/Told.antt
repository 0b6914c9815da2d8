-- What the lines of a scan tell: how far its boxes reach, their counts, and the run of boxes right before a line of which none is cleared.
use Rattle.std.specs.Prelude.{ℕ, ℤ, ◌+◌, ◌-◌, ◌≤◌, ◌<◌, ◌^◌, min, Bool, true, false, not, if◌then◌else◌, Option, Some, None, is_some}
use Rattle.scan_report.specs.declared.boxes.BoxRow.{BoxRow}
use Rattle.scan_report.specs.declared.boxes.Kind.{Kind}
use Rattle.scan_report.specs.declared.boxes.Kind.TheVariants as kind
use Rattle.scan_report.specs.declared.rows.BoxWord.{BoxWord}
use Rattle.scan_report.specs.declared.rows.BoxWord.TheVariants as word
use Rattle.study_scans.specs.Fold.{no_tally, tally_more}
use Rattle.study_scans.specs.Regions.{is_cleared}
use Rattle.study_scans.specs.Tallies.{IsTally}
use Rattle.report_verify.specs.declared.told.Told.{Told}

-- the kind that a line of a box tells: a peak has an order and a bound
abbrev pub kind_told : BoxWord → Option ℕ → Option ℤ → Option Kind
kind_told word.Cleared at micro_ohms = Some kind.Cleared
kind_told word.Undecided at micro_ohms = Some kind.Undecided
kind_told word.Peak (Some at) (Some micro_ohms) = Some (kind.Peak at micro_ohms)
kind_told word.Peak (Some at) None = None
kind_told word.Peak None micro_ohms = None

-- nothing yet of a band that begins here
abbrev pub told_at : ℕ → Told
told_at from = record { reached = from; tally = no_tally; after_region = false }

-- a cleared box may not follow a run without the row of its region, nor another box the row of a region
abbrev pub may_follow : Told → Kind → Bool
may_follow told k = if is_cleared k then not (is_some told.tally.run) else not told.after_region

-- what is told after a box more
abbrev pub with_box : Told → BoxRow → Told
with_box told b = record { reached = b.hi; tally = tally_more b told.tally; after_region = false }

-- and after the row of the region of the open run
abbrev pub with_region : Told → Told
with_region told = record { reached = told.reached; tally = record { counts = told.tally.counts; regions = told.tally.regions + 1; run = None }; after_region = true }

-- the counts are those of boxes, which are at most as many as the micro-orders up to where they reach, a number of 32 bits
pub record IsTold (told : Told) : Type 0 where
  pub tally : IsTally told.tally
  pub few : told.tally.counts.boxes ≤ told.reached
  pub short : told.reached < 2 ^ 32

-- the number of the line after this one, in 32 bits: it stands still at the greatest number
abbrev pub next_line : ℕ → ℕ
next_line n = min (n + 1) (2 ^ 32 - 1)
