use Rattle.std.proofs.Common.{◌≡◌, length}
use Rattle.band_subdivision.specs.Scan.{Scanning}
use Rattle.study_variants.proofs.CountedBoxes.{AreCounted}
use Rattle.study_variants.proofs.size_row.count_boxes.Given as goal

abbrev pub invariant-boxes : goal.invariant-boxes
invariant-boxes g l = record {
  same : ◌≡◌ {A = Scanning} l.scan (record l.initial.scan { left = l.scan.left });
  size : l.row.size ≡ l.fn.size;
  counted : AreCounted l.row l.scan.left l.initial.scan.left;
}

abbrev pub decreases-boxes : goal.decreases-boxes
decreases-boxes g l = length l.scan.left
