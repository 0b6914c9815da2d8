use Rattle.std.proofs.Common.{◌≡◌, drop, map}
use Rattle.complex_interval.specs.Rect.{rectangle_of}
use Rattle.plain_elimination.specs.Matrix.{nought_rectangle}
use Rattle.admittance_box.specs.Intervals.{placed_ends}
use Rattle.branchwise_test.specs.Sizes.{drop_from}
use Rattle.drop_bench.proofs.drops.drop_over.Given as goal

abbrev pub invariant-loop-tap : goal.invariant-loop-tap
invariant-loop-tap g l =
    drop_from g.E.Enclosure.SCALE (rectangle_of g.E.Enclosure.ends l.sum) (map (placed_ends g.E.Enclosure.ends) (drop l.tap-index l.taps)) (map (rectangle_of g.E.Enclosure.ends) l.xs)
    ≡ drop_from g.E.Enclosure.SCALE nought_rectangle (map (placed_ends g.E.Enclosure.ends) l.taps) (map (rectangle_of g.E.Enclosure.ends) l.xs)
