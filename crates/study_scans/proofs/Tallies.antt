-- What a tally keeps.
use Rattle.std.proofs.Common.{◌≡◌, ℕ, ◌+◌, ◌≤◌, ℤ, Bool, true, false, int_lt, Option, Some, None, sym, refl, subst, arith}
use Rattle.std.specs.Prelude.{if◌then◌else◌}
use Rattle.scan_report.specs.Rows.{IsOhms}
use Rattle.scan_report.specs.declared.boxes.BoxRow.{BoxRow}
use Rattle.scan_report.specs.declared.boxes.Kind.{Kind}
use Rattle.scan_report.specs.declared.boxes.Kind.TheVariants.{Cleared, Peak, Undecided}
use Rattle.band_subdivision.specs.BoxText.{HasText}
use Rattle.study_scans.specs.Regions.{ohms_of_summit}
use Rattle.study_scans.specs.Fold.{better, reaching, with_kind, joined, count_more, ended_by, tally_more}
use Rattle.study_scans.specs.Tallies.{IsRun, IsTally}
use Rattle.study_scans.specs.declared.counts.Counts.{Counts}
use Rattle.study_scans.specs.declared.counts.Tally.{Tally}
use Rattle.study_scans.specs.declared.region.Region.{Region}
use Rattle.study_scans.specs.declared.region.Summit.{Summit}

pub record Counts≤ (c d : Counts) : Type 0 where
  pub boxes : d.boxes ≡ c.boxes + 1
  pub cleared : d.cleared ≤ c.cleared + 1
  pub peaks : d.peaks ≤ c.peaks + 1
  pub undecided : d.undecided ≤ c.undecided + 1

pub count_grows : (k : Kind) (c : Counts) → Counts≤ c (count_more k c)
count_grows Cleared c = record { boxes = refl; cleared = omega arith; peaks = omega arith; undecided = omega arith }
count_grows (Peak at ohms) c = record { boxes = refl; cleared = omega arith; peaks = omega arith; undecided = omega arith }
count_grows Undecided c = record { boxes = refl; cleared = omega arith; peaks = omega arith; undecided = omega arith }

better_ohms : (first : Option Summit) (second : Summit) → IsOhms (ohms_of_summit first) → IsOhms (Some second.micro_ohms) → IsOhms (Some (better first second).micro_ohms)
better_ohms None second h k = k
better_ohms (Some first) second h k = pick (int_lt first.micro_ohms second.micro_ohms)
  where
    pick : (b : Bool) → IsOhms (Some (if b then second else first).micro_ohms)
    pick true = k
    pick false = h

run_grows : (n regions : ℕ) (run : Option Region) (lo hi : ℕ) (kind : Kind) → HasText (record { lo = lo; hi = hi; kind = kind }) → IsRun n regions run → IsRun (n + 1) (ended_by regions run kind) (with_kind (reaching run lo hi) kind)
run_grows n regions None lo hi Cleared t h = omega (arith, h)
run_grows n regions None lo hi (Peak at ohms) t h = (omega (arith, h), omega arith, omega arith, t)
run_grows n regions None lo hi Undecided t h = (omega (arith, h), omega arith, omega arith, tt)
run_grows n regions (Some run) lo hi Cleared t h = omega (arith, h.0)
run_grows n regions (Some run) lo hi (Peak at ohms) t h = (omega (arith, h.0), omega (arith, h.1), omega (arith, h.2), better_ohms run.summit (record { at = at; micro_ohms = ohms }) h.3 t)
run_grows n regions (Some run) lo hi Undecided t h = (omega (arith, h.0), omega (arith, h.1), omega (arith, h.2), h.3)

pub tally_grows : (b : BoxRow) (t : Tally) → HasText b → IsTally t → IsTally (tally_more b t)
tally_grows b t h k =
    let counts : Counts≤ t.counts (count_more b.kind t.counts) = count_grows b.kind t.counts in
    record {
      cleared = omega (arith, counts.boxes, counts.cleared, k.cleared);
      peaks = omega (arith, counts.boxes, counts.peaks, k.peaks);
      undecided = omega (arith, counts.boxes, counts.undecided, k.undecided);
      run = subst (λ n. IsRun n (ended_by t.regions t.run b.kind) (joined t.run b)) (sym counts.boxes) (run_grows t.counts.boxes t.regions t.run b.lo b.hi b.kind h k.run);
    }
