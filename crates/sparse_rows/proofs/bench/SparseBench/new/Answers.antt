use Rattle.sparse_rows.specs.Marks.{IsFilled, HasGaps}
use Rattle.sparse_rows.proofs.Filled.{bench}
use Rattle.sparse_rows.proofs.bench.SparseBench.new.Goals as goal

pub invariant_of-result : goal.invariant_of-result
invariant_of-result g c =
    let n = c.args.pattern.now.size in
    let marks = c.in_ok-marks.marks.items in
    let gaps = c.in_ok-gaps.gaps.items in
    let places = c.in_ok-places.places.items in
    let filled : IsFilled n places marks = rw (c.in_ok-places.ensures.items, c.as_slice-3.ensures.value, ← c.as_slice.ensures.value) c.in_ok-marks.ensures in
    let rows : HasGaps n n marks gaps = rw (← c.as_slice-2.ensures.value) c.in_ok-gaps.ensures.rows in
    rw (c.in_ok-cells.ensures, c.in_ok-sides.ensures) (bench n places marks gaps filled c.in_ok-gaps.ensures.square rows c.requires.some c.requires.few)
