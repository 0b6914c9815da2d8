use Rattle.std.proofs.Common.{arith}
use Rattle.complex_interval.specs.Rect.{rectangle_of}
use Rattle.network_theory.specs.Between.{TapUpTo}
use Rattle.net_branch.specs.Exact.{exact_tap}
use Rattle.admittance_box.specs.Current.{with_tap_voltage}
use Rattle.admittance_box.proofs.CurrentLoops.{fold_more, fold_stops}
use Rattle.admittance_box.proofs.TapLoops.{zip_item, zip_count}
use Rattle.admittance_box.proofs.current.drop_of.Goals as goal

pub with_tap_voltage-requires-clause-ordered : goal.with_tap_voltage-requires-clause-ordered
with_tap_voltage-requires-clause-ordered g c = zip_item TapUpTo exact_tap c.args.low.now c.args.high.now c.loop-i.i c.index-low-i.result c.index-high-i.result c.requires.ordered c.loop-i-test.true c.index-low-i.is c.index-high-i.is

pub loop-i-preserved : goal.loop-i-preserved
loop-i-preserved g c =
    let low = c.args.low.now in
    let high = c.args.high.now in
    let count = zip_count TapUpTo exact_tap low high c.requires.ordered in
    fold_more (with_tap_voltage g.E.Enclosure.SCALE c.args.ordering.now c.args.volts.now) exact_tap low high c.loop-i.i c.index-low-i.result c.index-high-i.result c.loop-i-test.true c.index-low-i.is (omega (arith, c.loop-i-test.true, count)) c.index-high-i.is
    (rectangle_of g.E.Enclosure.ends c.loop-i.sum) _ c.loop-i.invariant (rectangle_of g.E.Enclosure.ends c.in_ok-next.next) c.in_ok-next.ensures

pub returns-in_err-next : goal.returns-in_err-next
returns-in_err-next g c =
    let low = c.args.low.now in
    let high = c.args.high.now in
    let count = zip_count TapUpTo exact_tap low high c.requires.ordered in
    rw c.from_residual.ensures
    (fold_stops (with_tap_voltage g.E.Enclosure.SCALE c.args.ordering.now c.args.volts.now) exact_tap low high c.loop-i.i c.index-low-i.result c.index-high-i.result c.loop-i-test.true c.index-low-i.is (omega (arith, c.loop-i-test.true, count)) c.index-high-i.is
    (rectangle_of g.E.Enclosure.ends c.loop-i.sum) _ c.loop-i.invariant c.in_err-next.ensures)
