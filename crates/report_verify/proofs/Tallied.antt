-- What is kept while the lines of a scan are checked.
use Rattle.std.proofs.Common.{◌≡◌, ℕ, ◌+◌, ◌≤◌, ◌<◌, ◌^◌, ℤ, List, Option, Some, None, IsSome, arith}
use Rattle.scan_report.specs.Rows.{fields_of, HaveText, IsOhms}
use Rattle.scan_report.specs.declared.boxes.BoxRow.{BoxRow}
use Rattle.band_subdivision.specs.BoxText.{ohms_of_kind}
use Rattle.study_scans.specs.Fold.{count_more}
use Rattle.study_scans.specs.Regions.{row_of_region}
use Rattle.study_scans.specs.Tallies.{IsRun, IsTally}
use Rattle.study_scans.specs.declared.region.Region.{Region}
use Rattle.study_scans.proofs.Tallies.{Counts≤, count_grows, tally_grows}
use Rattle.report_verify.specs.Told.{IsTold, with_box, with_region}
use Rattle.report_verify.specs.declared.told.Told.{Told}

-- the open run is a region more
pub open_counted : (n r : ℕ) (run : Option Region) → IsRun n r run → IsSome run → (r + 1) ≤ n
open_counted n r (Some run) h running = h.0
open_counted n r None h running = absurd (cc)

pub regions_few : (n r : ℕ) (run : Option Region) → IsRun n r run → r ≤ n
regions_few n r (Some run) h = omega (arith, h.0)
regions_few n r None h = h

-- so the number of its region is one of 32 bits
pub run_numbered : (told : Told) → IsTold told → IsSome told.tally.run → (told.tally.regions + 1) < 2 ^ 32
run_numbered told h running = omega (arith, open_counted told.tally.counts.boxes told.tally.regions told.tally.run h.tally.run running, h.few, h.short)

-- one box more
pub box_told : (told : Told) (b : BoxRow) → IsTold told → b.lo ≡ told.reached → b.lo < b.hi → b.hi < 2 ^ 32 → IsOhms (ohms_of_kind b.kind) → IsTold (with_box told b)
box_told told b h begins up short text =
    let grows : Counts≤ told.tally.counts (count_more b.kind told.tally.counts) = count_grows b.kind told.tally.counts in
    record { tally = tally_grows b told.tally text h.tally; few = omega (arith, grows.boxes, h.few, begins, up); short = short }

-- the row of a region
pub region_told : (told : Told) → IsTold told → IsSome told.tally.run → IsTold (with_region told)
region_told told h running =
    record {
      tally = record { cleared = h.tally.cleared; peaks = h.tally.peaks; undecided = h.tally.undecided; run = open_counted _ _ _ h.tally.run running };
      few = h.few;
      short = h.short;
    }

-- that row has a text
pub region_text : (hz : ℤ) (number n r : ℕ) (run : Region) → IsRun n r (Some run) → HaveText (fields_of (row_of_region hz number run))
region_text hz number n r run h = (tt, (tt, (tt, (tt, (tt, (tt, (tt, (tt, (h.3, tt)))))))))
