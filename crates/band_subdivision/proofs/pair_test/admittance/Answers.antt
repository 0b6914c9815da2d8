use Rattle.std.proofs.Common.{◌∙◌}
use Rattle.band_subdivision.proofs.Benches.{suits}
use Rattle.band_subdivision.proofs.pair_test.admittance.Goals as goal

pub reduce-requires-clause-outside : goal.reduce-requires-clause-outside
reduce-requires-clause-outside g c =
    let a = c.args.assembly.now in
    suits g.E.Enclosure.SCALE a.low a.high a.ordering c.args.lo c.args.hi c.fill.new.matrix c.args.bench.now (c.fill.ensures.size ∙ c.requires.size) c.requires.pattern c.in-Filled.ensures.stated
