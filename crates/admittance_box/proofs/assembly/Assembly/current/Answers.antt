use Rattle.std.proofs.Common.{refl, sym, subst}
use Rattle.std.specs.Option.{option_map}
use Rattle.complex_interval.specs.Rect.{rectangle_of}
use Rattle.network_theory.specs.Live.{Live}
use Rattle.net_branch.specs.Exact.{exact_network}
use Rattle.admittance_box.specs.Assembled.{Assembled}
use Rattle.admittance_box.proofs.HeldTerminals.{current_stated, current_holds}
use Rattle.admittance_box.proofs.assembly.Assembly.current.Goals as goal

pub returns-clause-stated : goal.returns-clause-stated
returns-clause-stated g c =
    let inside = c.self.inside in
    let a : Assembled = record { low = exact_network inside.low; high = exact_network inside.high; driven = inside.driven; ordering = inside.ordering.items } in
    rw (← c.self.view_is)
    (current_stated g.E.Enclosure.SCALE inside.low inside.high a c.as_slice-2.result.now c.as_slice-3.result.now c.as_slice.result.now (g.E.Enclosure.ends c.order_range-order.result) c.args.lo c.args.hi c.args.owner c.args.node.number
    c.args.volts.now (option_map (rectangle_of g.E.Enclosure.ends) c.sum_of_branches.result) refl refl c.as_slice-2.ensures c.as_slice-3.ensures c.as_slice.ensures.value c.order_range-order.ensures.value c.sum_of_branches.ensures)

pub returns-clause-holds : goal.returns-clause-holds
returns-clause-holds g c =
    let inside = c.self.inside in
    let kept = c.self.invariant in
    let a : Assembled = record { low = exact_network inside.low; high = exact_network inside.high; driven = inside.driven; ordering = inside.ordering.items } in
    rw (← c.self.view_is)
    (current_holds (rectangle_of g.E.Enclosure.ends) c.sum_of_branches.result g.E.Enclosure.SCALE a.low a.high a.driven a.ordering kept.ready c.args.lo c.args.hi c.args.owner c.args.node.number c.args.volts.now (subst (λ (x : Assembled). Live x.low c.args.node.number) (sym c.self.view_is) c.requires.live)
    (current_stated g.E.Enclosure.SCALE inside.low inside.high a c.as_slice-2.result.now c.as_slice-3.result.now c.as_slice.result.now (g.E.Enclosure.ends c.order_range-order.result) c.args.lo c.args.hi c.args.owner c.args.node.number
    c.args.volts.now (option_map (rectangle_of g.E.Enclosure.ends) c.sum_of_branches.result) refl refl c.as_slice-2.ensures c.as_slice-3.ensures c.as_slice.ensures.value c.order_range-order.ensures.value c.sum_of_branches.ensures))
