use Rattle.std.proofs.Common.{◌∙◌}
use Rattle.distortion_bounds.specs.Solver.{micro_orders}
use Rattle.distortion_bounds.proofs.Filling.{suits}
use Rattle.distortion_bounds.proofs.solver.solve_filled.Goals as goal

pub solve-requires-clause-outside : goal.solve-requires-clause-outside
solve-requires-clause-outside g c =
    let a = c.args.assembly.now in
    suits g.E.Enclosure.SCALE a.low a.high a.ordering (micro_orders c.args.order) (micro_orders c.args.order) c.fill.new.matrix c.args.bench.now (c.fill.ensures.size ∙ c.requires.size) c.requires.pattern c.in-Filled.ensures.stated
