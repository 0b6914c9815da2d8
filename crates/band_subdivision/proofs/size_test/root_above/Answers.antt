use Rattle.exact_fraction.proofs.Roots.{root_ceil_only}
use Rattle.band_subdivision.proofs.size_test.root_above.Goals as goal

pub returns : goal.returns
returns c = root_ceil_only c.args.square c.root_ceil.result c.root_ceil.ensures.square c.root_ceil.ensures.least
