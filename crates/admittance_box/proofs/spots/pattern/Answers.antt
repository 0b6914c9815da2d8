use Rattle.std.proofs.Common.{arith}
use Rattle.admittance_box.proofs.MadeOrderings.{made_order, order_count}
use Rattle.admittance_box.proofs.spots.pattern.Goals as goal

pub pattern_of-requires : goal.pattern_of-requires
pattern_of-requires c =
    let network = c.args.network.now in
    let ordered = made_order network c.args.driven.number c.in_ok-marks.marks.items c.as_slice.result.now c.in_ok-ordering.ordering.items c.requires.whole c.in_ok-marks.ensures c.as_slice.ensures.value c.in_ok-ordering.ensures in
    let few = order_count network c.args.driven.number c.in_ok-ordering.ordering.items c.requires.whole c.requires.live ordered in
    let limit = c.requires.whole.limits.nodes in
    rw c.as_slice-2.ensures.value (omega (arith, few, limit))

pub returns : goal.returns
returns c =
    let network = c.args.network.now in
    record {
      ordering = c.in_ok-ordering.ordering.items;
      ordered = made_order network c.args.driven.number c.in_ok-marks.marks.items c.as_slice.result.now c.in_ok-ordering.ordering.items c.requires.whole c.in_ok-marks.ensures c.as_slice.ensures.value c.in_ok-ordering.ensures;
      pattern = rw (← c.as_slice-2.ensures.value, ← c.as_slice-3.ensures) c.in_ok-pattern.ensures;
    }
