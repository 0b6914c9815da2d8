-- What is kept while the boxes of a scan come one after another; proofs/Folds.antt shows that it comes to the regions and counts of a report.
use Rattle.std.specs.Prelude.{ℕ, ℤ, ◌+◌, ◌-◌, ◌^◌, nat_lt, int_lt, false, ◌||◌, if◌then◌else◌, List, [], ◌∷◌, ◌++◌, Option, Some, None}
use Rattle.band_subdivision.specs.Boxes.{BoxTest}
use Rattle.scan_report.specs.declared.boxes.Kind.{Kind}
use Rattle.scan_report.specs.declared.boxes.Kind.TheVariants.{Cleared, Peak, Undecided}
use Rattle.scan_report.specs.declared.boxes.BoxRow.{BoxRow}
use Rattle.scan_report.specs.declared.rows.Row.{Row}
use Rattle.scan_report.specs.declared.rows.Row.TheVariants as row
use Rattle.study_model.specs.declared.records.ScanItem.{ScanItem}
use Rattle.study_model.specs.declared.records.Study.{Study}
use Rattle.study_scans.specs.declared.counts.Counts.{Counts}
use Rattle.study_scans.specs.declared.counts.Tally.{Tally}
use Rattle.study_scans.specs.declared.counts.Found.{Found}
use Rattle.study_scans.specs.declared.region.Region.{Region}
use Rattle.study_scans.specs.declared.region.Summit.{Summit}
use Rattle.study_scans.specs.Regions.{is_peak, is_undecided, row_of_region}
use Rattle.study_scans.specs.Report.{row_of, some_box}
use Rattle.study_scans.specs.Scan.{boxes_for}

-- a scan has fewer boxes than this, so its counts are numbers of 32 bits
abbrev pub most_boxes : ℕ
most_boxes = 2 ^ 32 - 1

-- of two peaks the one with the greater bound, the first where both are equal
abbrev pub better : Option Summit → Summit → Summit
better None second = second
better (Some first) second = if int_lt first.micro_ohms second.micro_ohms then second else first

-- a run of boxes up to this end; a new one begins at `lo`
abbrev pub reaching : Option Region → ℕ → ℕ → Region
reaching None lo hi = record { lo = lo; hi = hi; peaks = 0; undecided = 0; summit = None }
reaching (Some run) lo hi = record run { hi = hi }

abbrev pub with_kind : Region → Kind → Option Region
with_kind run Cleared = None
with_kind run (Peak at ohms) = Some (record run { peaks = run.peaks + 1; summit = Some (better run.summit (record { at = at; micro_ohms = ohms })) })
with_kind run Undecided = Some (record run { undecided = run.undecided + 1 })

-- the run that is open after one box more: a cleared box ends it
abbrev pub joined : Option Region → BoxRow → Option Region
joined run b = with_kind (reaching run b.lo b.hi) b.kind

-- how many boxes are of each kind
abbrev pub count_more : Kind → Counts → Counts
count_more Cleared c = record c { boxes = c.boxes + 1; cleared = c.cleared + 1 }
count_more (Peak at ohms) c = record c { boxes = c.boxes + 1; peaks = c.peaks + 1 }
count_more Undecided c = record c { boxes = c.boxes + 1; undecided = c.undecided + 1 }

abbrev pub no_counts : Counts
no_counts = record { boxes = 0; cleared = 0; peaks = 0; undecided = 0 }

-- how many regions have ended: a cleared box ends the one that is open
abbrev pub ended_by : ℕ → Option Region → Kind → ℕ
ended_by regions (Some run) Cleared = regions + 1
ended_by regions (Some run) (Peak at ohms) = regions
ended_by regions (Some run) Undecided = regions
ended_by regions None kind = regions

-- one box more of a scan
abbrev pub tally_more : BoxRow → Tally → Tally
tally_more b t = record { counts = count_more b.kind t.counts; regions = ended_by t.regions t.run b.kind; run = joined t.run b }

abbrev pub tallied : Tally → List BoxRow → Tally
tallied t [] = t
tallied t (b ∷ bs) = tallied (tally_more b t) bs

abbrev pub no_tally : Tally
no_tally = record { counts = no_counts; regions = 0; run = None }

-- the row of the run that is open, where there is one
abbrev pub open_rows : ℤ → ℕ → Option Region → List Row
open_rows hz regions None = []
open_rows hz regions (Some run) = row_of_region hz (regions + 1) run ∷ []

-- the row of the region that a box ends
abbrev pub ended_rows : ℤ → ℕ → Option Region → Kind → List Row
ended_rows hz regions run Cleared = open_rows hz regions run
ended_rows hz regions run (Peak at ohms) = []
ended_rows hz regions run Undecided = []

-- the rows of boxes, each region's row right after its last box
abbrev pub folded_rows : ℤ → Tally → List BoxRow → List Row
folded_rows hz t [] = open_rows hz t.regions t.run
folded_rows hz t (b ∷ bs) = ended_rows hz t.regions t.run b.kind ++ row_of (t.counts.boxes + 1) b.lo b.hi b.kind ∷ folded_rows hz (tally_more b t) bs

-- how many regions there are, the open one too
abbrev pub all_regions : ℕ → Option Region → ℕ
all_regions regions None = regions
all_regions regions (Some run) = regions + 1

-- a scan's last row
abbrev pub folded_summary : ScanItem → Tally → Row
folded_summary scan t = row.Summary scan.name t.counts.boxes t.counts.cleared t.counts.peaks t.counts.undecided (all_regions t.regions t.run)

-- a scan more, with these boxes
abbrev pub found_too : Found → Counts → Found
found_too f c = record { peak = f.peak || nat_lt 0 c.peaks; undecided = f.undecided || nat_lt 0 c.undecided }

abbrev pub nothing_found : Found
nothing_found = record { peak = false; undecided = false }

-- what is found in all scans together, where each has a test of its boxes
abbrev pub found_in : (ScanItem → BoxTest) → Study → Found → List ScanItem → Found
found_in tests study f [] = f
found_in tests study f (scan ∷ scans) = found_in tests study (found_too f (tallied no_tally (boxes_for tests study scan)).counts) scans

-- whether some box of a study is a peak, and whether one is undecided
abbrev pub found_over : (ScanItem → BoxTest) → Study → Found
found_over tests study = record { peak = some_box is_peak tests study; undecided = some_box is_undecided tests study }

-- the status by what was found
abbrev pub status_of : Found → ℕ
status_of f = if f.peak then 3 else (if f.undecided then 4 else 0)

-- the status of a report of one scan, which has these boxes
unfoldable pub counted_status : List BoxRow → ℕ
counted_status boxes = status_of (found_too nothing_found (tallied no_tally boxes).counts)
