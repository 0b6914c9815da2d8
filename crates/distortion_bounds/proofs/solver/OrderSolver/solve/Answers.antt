use Rattle.std.proofs.Common.{map}
use Rattle.node_injection.specs.Injected.{exact_injection}
use Rattle.distortion_bounds.proofs.SolvedStates.{never_done_without}
use Rattle.distortion_bounds.proofs.Solvers.{solved_for}
use Rattle.distortion_bounds.proofs.solver.OrderSolver.solve.Goals as goal

pub returns-in-Ok-clause-truth : goal.returns-in-Ok-clause-truth
returns-in-Ok-clause-truth g c =
    let i = c.self.inside in
    λ done. solved_for g.E.Enclosure.SCALE i.assembly c.solve_order-solved.new.assembly i.matrix i.bench i.column i.order c.args.order (map exact_injection c.args.injections.now) c.solve_order-solved.new.column c.self.invariant c.requires.from
    c.in-Ok.ensures.stated c.in-Ok.ensures.assembly

pub returns-in-Err-clause-truth : goal.returns-in-Err-clause-truth
returns-in-Err-clause-truth g c =
    let a = c.self.inside.assembly in
    λ done. absurd (never_done_without g.E.Enclosure.SCALE a.low a.ordering c.args.order (map exact_injection c.args.injections.now) c.in-Err.answer c.in-Err.ensures.stated done)
