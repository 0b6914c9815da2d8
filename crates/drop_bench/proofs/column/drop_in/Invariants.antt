use Rattle.std.proofs.Common.{◌≡◌, drop, map}
use Rattle.complex_interval.specs.Rect.{rectangle_of}
use Rattle.plain_elimination.specs.Matrix.{nought_rectangle}
use Rattle.admittance_box.specs.Intervals.{placed_ends}
use Rattle.branchwise_test.specs.Sizes.{drop_from}
use Rattle.drop_bench.specs.Columns.{column_of}
use Rattle.drop_bench.proofs.column.drop_in.Given as goal

abbrev pub invariant-loop-tap : goal.invariant-loop-tap
invariant-loop-tap g l =
    let xs = column_of l.column (map (λ r. map (rectangle_of g.E.Enclosure.ends) r.items) l.rows) in
    drop_from g.E.Enclosure.SCALE (rectangle_of g.E.Enclosure.ends l.sum) (map (placed_ends g.E.Enclosure.ends) (drop l.tap-index l.taps)) xs
    ≡ drop_from g.E.Enclosure.SCALE nought_rectangle (map (placed_ends g.E.Enclosure.ends) l.taps) xs
