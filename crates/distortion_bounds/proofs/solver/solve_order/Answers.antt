use Rattle.std.proofs.Common.{map}
use Rattle.node_injection.specs.Injected.{exact_injection}
use Rattle.distortion_bounds.proofs.SolvedStates.{solution_err, solution_ok}
use Rattle.distortion_bounds.proofs.solver.solve_order.Goals as goal

pub returns-in-Err-clause-stated : goal.returns-in-Err-clause-stated
returns-in-Err-clause-stated g c =
    let a = c.args.assembly.now in
    solution_err g.E.Enclosure.SCALE a.low a.ordering c.args.order (map exact_injection c.args.injections.now) c.in-Err.answer (rw (← c.ordering.ensures.nodes) c.in-Err.ensures.right)

pub returns-in-Ok-clause-stated : goal.returns-in-Ok-clause-stated
returns-in-Ok-clause-stated g c =
    let a = c.args.assembly.now in
    let right = c.in-Ok.ensures.right in
    let solved = rw c.requires.alone at c.solve_filled.ensures.stated in
    solution_ok g.E.Enclosure.SCALE a.low a.ordering c.args.order (map exact_injection c.args.injections.now) c.set_right_sides.new.column _ (rw (← c.ordering.ensures.nodes) right) solved
