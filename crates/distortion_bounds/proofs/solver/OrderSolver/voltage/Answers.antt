use Rattle.std.proofs.Common.{◌≡◌, ◌∙◌, sym, ap}
use Rattle.std.specs.Prelude.{Some}
use Rattle.complex_interval.specs.Rect.{rectangle_of}
use Rattle.admittance_box.specs.Places.{place_of}
use Rattle.admittance_box.proofs.PairPlaces.{place-below}
use Rattle.distortion_bounds.proofs.Solvers.{voltage_holds}
use Rattle.distortion_bounds.proofs.solver.OrderSolver.voltage.Goals as goal

pub get-requires : goal.get-requires
get-requires g c =
    let a = c.self.inside.assembly in
    let place : Some c.in_ok-place.place ≡ place_of a.ordering c.args.node.number = c.in_ok-place.ensures ∙ ap (λ l. place_of l c.args.node.number) c.ordering.ensures.nodes in
    rw c.self.invariant.sides (place-below a.ordering c.args.node.number c.in_ok-place.place (sym place))

pub returns-clause-holds : goal.returns-clause-holds
returns-clause-holds g c =
    let a = c.self.inside.assembly in
    let place : Some c.in_ok-place.place ≡ place_of a.ordering c.args.node.number = c.in_ok-place.ensures ∙ ap (λ l. place_of l c.args.node.number) c.ordering.ensures.nodes in
    rw (← c.self.view_is)
    (voltage_holds g.E.Enclosure.SCALE a c.self.inside.column c.self.inside.order c.in_ok-self.field-0 c.args.node.number c.in_ok-place.place (rectangle_of g.E.Enclosure.ends c.get.result) c.squares_of.result c.in_ok-self.was place c.get.ensures c.squares_of.ensures.holds)
