use Rattle.std.proofs.Common.{◌≡◌, drop, length, map}
use Rattle.complex_interval.specs.Rect.{rectangle_of}
use Rattle.plain_elimination.specs.Matrix.{nought_rectangle}
use Rattle.branchwise_test.specs.Enclosed.{correction}
use Rattle.drop_bench.specs.Columns.{columns}
use Rattle.drop_bench.specs.Drops.{drop_ends}
use Rattle.drop_bench.proofs.estimate.correction.Given as goal

abbrev pub invariant-loop-i : goal.invariant-loop-i
invariant-loop-i g l =
    let vs = columns (length l.drops) (map (λ r. map (rectangle_of g.E.Enclosure.ends) r.items) l.voltages) in
    correction g.E.Enclosure.SCALE l.driven (rectangle_of g.E.Enclosure.ends l.sum) (drop l.i (map (drop_ends g.E.Enclosure.ends) l.drops)) (drop l.i vs) (drop l.i (map (rectangle_of g.E.Enclosure.ends) l.xs))
    ≡ correction g.E.Enclosure.SCALE l.driven nought_rectangle (map (drop_ends g.E.Enclosure.ends) l.drops) vs (map (rectangle_of g.E.Enclosure.ends) l.xs)
