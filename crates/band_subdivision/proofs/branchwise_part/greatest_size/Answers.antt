use Rattle.complex_interval.specs.Rect.{rectangle_of}
use Rattle.band_subdivision.proofs.TestSteps.{high_fits}
use Rattle.band_subdivision.proofs.branchwise_part.greatest_size.Goals as goal

pub root_above-requires : goal.root_above-requires
root_above-requires g c = rw c.high_square.ensures.value (high_fits (rectangle_of g.E.Enclosure.ends c.args.estimate) (g.met.E.Enclosure.are_ends c.args.estimate.re) (g.met.E.Enclosure.are_ends c.args.estimate.im))
