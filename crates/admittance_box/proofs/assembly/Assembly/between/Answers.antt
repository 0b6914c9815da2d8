use Rattle.std.proofs.Common.{map, arith}
use Rattle.admittance_box.specs.Intervals.{addend_of}
use Rattle.admittance_box.proofs.MadeOrderings.{made_order, order_count, ready_by, kept_by, made_by}
use Rattle.admittance_box.proofs.assembly.Assembly.between.Goals as goal

pub branches_between-requires-clause-few : goal.branches_between-requires-clause-few
branches_between-requires-clause-few g c =
    let low = c.args.low.now in
    let ordered = made_order low c.args.driven.number c.in_ok-marks.marks.items c.as_slice.result.now c.in_ok-ordering.ordering.items c.requires.whole_low c.in_ok-marks.ensures c.as_slice.ensures.value c.in_ok-ordering.ensures in
    let few = order_count low c.args.driven.number c.in_ok-ordering.ordering.items c.requires.whole_low c.requires.live ordered in
    let limit = c.requires.whole_low.limits.nodes in
    rw c.as_slice-2.ensures.value (omega (arith, few, limit))

pub invariant_of-result : goal.invariant_of-result
invariant_of-result g c =
    let low = c.args.low.now in
    let high = c.args.high.now in
    let driven = c.args.driven.number in
    let ordering = c.in_ok-ordering.ordering.items in
    let can = ready_by low high driven c.in_ok-marks.marks.items c.as_slice.result.now ordering c.requires.whole_low c.requires.pair c.requires.live c.in_ok-marks.ensures c.as_slice.ensures.value c.in_ok-ordering.ensures in
    kept_by g.E.Enclosure.SCALE low high c.in_ok-copy_of.field-0 c.in_ok-copy_of-2.field-0 driven ordering c.as_slice-2.result.now c.as_slice-low_branches.result.now c.as_slice-high_branches.result.now
    (map (addend_of g.E.Enclosure.ends) c.in_ok-branches.branches.items) c.in_ok-copy_of.ensures c.in_ok-copy_of-2.ensures c.as_slice-2.ensures.value c.as_slice-low_branches.ensures c.as_slice-high_branches.ensures
    c.requires.whole_low can c.in_ok-branches.ensures

pub returns : goal.returns
returns g c =
    let low = c.args.low.now in
    let high = c.args.high.now in
    let driven = c.args.driven.number in
    let ordering = c.in_ok-ordering.ordering.items in
    let can = ready_by low high driven c.in_ok-marks.marks.items c.as_slice.result.now ordering c.requires.whole_low c.requires.pair c.requires.live c.in_ok-marks.ensures c.as_slice.ensures.value c.in_ok-ordering.ensures in
    made_by low high c.in_ok-copy_of.field-0 c.in_ok-copy_of-2.field-0 driven ordering c.in_ok-copy_of.ensures c.in_ok-copy_of-2.ensures can
