use Rattle.band_subdivision.proofs.TestSteps.{root_floor_only}
use Rattle.band_subdivision.proofs.size_test.root_below.Goals as goal

pub returns-clause-value : goal.returns-clause-value
returns-clause-value c = root_floor_only c.args.square c.root_floor.result c.root_floor.ensures.square c.root_floor.ensures.greatest
