use Rattle.std.proofs.Common.{◌≡◌, ◌+◌, ◌<◌, length}
use Rattle.std.specs.Prelude.{None}
use Rattle.std.specs.List.{AllByRecursion}
use Rattle.band_subdivision.specs.BoxText.{HasText}
use Rattle.study_scans.specs.Fold.{most_boxes, tallied, no_tally}
use Rattle.study_scans.specs.Tallies.{IsTally}
use Rattle.outages_report.specs.Counting.{highest}
use Rattle.outages_report.proofs.case.seen_in.Given as goal

abbrev pub invariant-boxes : goal.invariant-boxes
invariant-boxes g l = record {
  text : AllByRecursion HasText l.walk.left;
  few : l.tally.counts.boxes + length l.walk.left < most_boxes;
  tally : IsTally l.tally;
  counts : tallied l.tally l.walk.left ≡ tallied no_tally l.initial.walk.left;
  summit : highest l.summit l.walk.left ≡ highest None l.initial.walk.left;
}

abbrev pub decreases-boxes : goal.decreases-boxes
decreases-boxes g l = length l.walk.left
