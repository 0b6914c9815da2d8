use Rattle.std.proofs.Common.{arith}
use Rattle.complex_interval.specs.Rect.{rectangle_of}
use Rattle.network_theory.specs.Between.{TapUpTo}
use Rattle.net_branch.specs.Exact.{exact_tap}
use Rattle.admittance_box.specs.Current.{with_tap_current}
use Rattle.admittance_box.proofs.CurrentLoops.{fold_more, fold_stops}
use Rattle.admittance_box.proofs.TapLoops.{zip_item, zip_count}
use Rattle.admittance_box.proofs.current.with_leaving.Goals as goal

pub with_tap_current-requires : goal.with_tap_current-requires
with_tap_current-requires g c = zip_item TapUpTo exact_tap c.args.low.now c.args.high.now c.loop-i.i c.index-low-i.result c.index-high-i.result c.requires c.loop-i-test.true c.index-low-i.is c.index-high-i.is

pub loop-i-preserved : goal.loop-i-preserved
loop-i-preserved g c =
    let low = c.args.low.now in
    let high = c.args.high.now in
    let count = zip_count TapUpTo exact_tap low high c.requires in
    fold_more (with_tap_current g.E.Enclosure.SCALE c.args.node (rectangle_of g.E.Enclosure.ends c.args.current)) exact_tap low high c.loop-i.i c.index-low-i.result c.index-high-i.result c.loop-i-test.true c.index-low-i.is (omega (arith, c.loop-i-test.true, count)) c.index-high-i.is
    (rectangle_of g.E.Enclosure.ends c.loop-i.sum) _ c.loop-i.invariant (rectangle_of g.E.Enclosure.ends c.in_ok-next.next) c.in_ok-next.ensures

pub returns-in_err-next : goal.returns-in_err-next
returns-in_err-next g c =
    let low = c.args.low.now in
    let high = c.args.high.now in
    let count = zip_count TapUpTo exact_tap low high c.requires in
    rw c.from_residual.ensures
    (fold_stops (with_tap_current g.E.Enclosure.SCALE c.args.node (rectangle_of g.E.Enclosure.ends c.args.current)) exact_tap low high c.loop-i.i c.index-low-i.result c.index-high-i.result c.loop-i-test.true c.index-low-i.is (omega (arith, c.loop-i-test.true, count)) c.index-high-i.is
    (rectangle_of g.E.Enclosure.ends c.loop-i.sum) _ c.loop-i.invariant c.in_err-next.ensures)
