use Rattle.complex_interval.specs.Rect.{rectangle_of}
use Rattle.band_subdivision.proofs.TestSteps.{low_fits}
use Rattle.band_subdivision.proofs.branchwise_part.least_size.Goals as goal

pub root_below-requires : goal.root_below-requires
root_below-requires g c = rw c.low_square.ensures.value (low_fits (rectangle_of g.E.Enclosure.ends c.args.estimate) (g.met.E.Enclosure.are_ends c.args.estimate.re) (g.met.E.Enclosure.are_ends c.args.estimate.im))
