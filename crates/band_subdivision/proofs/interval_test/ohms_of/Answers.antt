use Rattle.std.proofs.Common.{◌<◌, arith}
use Rattle.complex_interval.specs.Rect.{rectangle_of}
use Rattle.band_subdivision.proofs.TestSteps.{high_positive}
use Rattle.band_subdivision.proofs.interval_test.ohms_of.Goals as goal

pub micro_ohms-requires-clause-some : goal.micro_ohms-requires-clause-some
micro_ohms-requires-clause-some g c =
    let some : 0 < c.high_square-high.result =
    high_positive (rectangle_of g.E.Enclosure.ends c.in-Some-reduced.y) c.low_square-low.result c.high_square-high.result
    c.low_square-low.ensures.value c.high_square-high.ensures.value c.if-low-gt0.true in
    omega (arith, some, c.if-low-gt0.true)
