use Rattle.std.proofs.Common.{ap}
use Rattle.band_subdivision.proofs.Scans.{test_in, clear_here, above_here}
use Rattle.band_subdivision.proofs.scan.Scan.test.Goals as goal

pub returns-clause-within : goal.returns-clause-within
returns-clause-within g c =
    clear_here g.E.Enclosure.SCALE c.self.inside.test c.args.self.now c.self.inside.stack (ap test_in c.self.view_is) c.self.invariant c.args.lo c.args.hi
    c.requires.from c.requires.ordered c.requires.to c.is_clear.result c.is_clear.ensures.value

pub returns-clause-at_least : goal.returns-clause-at_least
returns-clause-at_least g c =
    let told = rw c.is_clear.ensures.same at c.micro_ohms.ensures.value in
    above_here g.E.Enclosure.SCALE c.self.inside.test c.args.self.now c.self.inside.stack (ap test_in c.self.view_is) c.self.invariant c.args.lo c.args.hi
    c.requires.from c.requires.ordered c.requires.to c.micro_ohms.result told
