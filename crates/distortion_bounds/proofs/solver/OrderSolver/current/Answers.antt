use Rattle.std.proofs.Common.{◌≡◌, ◌∙◌, ap}
use Rattle.std.specs.Prelude.{Some}
use Rattle.complex_interval.specs.Rect.{rectangle_of}
use Rattle.admittance_box.specs.Places.{place_of}
use Rattle.distortion_bounds.proofs.Solvers.{live_at, current_holds}
use Rattle.distortion_bounds.proofs.solver.OrderSolver.current.Goals as goal

pub current-requires-clause-live : goal.current-requires-clause-live
current-requires-clause-live g c =
    let i = c.self.inside in
    let place : Some c.in_ok-find_place.field-0 ≡ place_of i.assembly.ordering c.args.node.number = c.in_ok-find_place.ensures ∙ ap (λ l. place_of l c.args.node.number) c.ordering.ensures.nodes in
    live_at i.assembly i.matrix i.bench i.column i.order c.args.node.number c.in_ok-find_place.field-0 c.self.invariant place

pub returns-clause-holds : goal.returns-clause-holds
returns-clause-holds g c =
    let i = c.self.inside in
    rw (← c.self.view_is)
    (current_holds g.E.Enclosure.SCALE i.assembly i.matrix i.bench i.column i.order c.in_ok-order.order c.args.owner c.args.node.number (rectangle_of g.E.Enclosure.ends c.in_ok-current.current) c.squares_of.result c.self.invariant c.in_ok-order.was
    c.in_ok-current.ensures.holds c.squares_of.ensures.holds)
