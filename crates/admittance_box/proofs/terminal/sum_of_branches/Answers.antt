use Rattle.std.proofs.Common.{◌+◌, arith}
use Rattle.complex_interval.specs.Rect.{rectangle_of}
use Rattle.network_theory.specs.Between.{BranchUpTo}
use Rattle.net_branch.specs.Exact.{exact_branch}
use Rattle.admittance_box.proofs.CurrentLoops.{all_more, all_stops}
use Rattle.admittance_box.proofs.TapLoops.{zip_item, zip_count, zip_drop}
use Rattle.admittance_box.proofs.terminal.sum_of_branches.Goals as goal

pub with_first-requires-clause-a_ordered : goal.with_first-requires-clause-a_ordered
with_first-requires-clause-a_ordered g c = zip_item BranchUpTo exact_branch c.args.low.now c.args.high.now c.loop-i.i c.index-low-i.result c.index-high-i.result c.requires.ordered c.loop-i-test.true c.index-low-i.is c.index-high-i.is

pub with_first-requires-clause-ordered : goal.with_first-requires-clause-ordered
with_first-requires-clause-ordered g c = rw (c.branches_from.ensures, c.branches_from-in-loop-i.ensures) (zip_drop BranchUpTo exact_branch c.args.low.now c.args.high.now (c.loop-i.i + 1) c.requires.ordered)

pub loop-i-preserved : goal.loop-i-preserved
loop-i-preserved g c =
    let low = c.args.low.now in
    let high = c.args.high.now in
    let count = zip_count BranchUpTo exact_branch low high c.requires.ordered in
    all_more g.E.Enclosure.SCALE (g.E.Enclosure.ends c.args.order) c.args.ordering.now c.args.volts.now c.args.owner c.args.node low high c.loop-i.i c.index-low-i.result c.index-high-i.result c.loop-i-test.true c.index-low-i.is (omega (arith, c.loop-i-test.true, count)) c.index-high-i.is
    (rectangle_of g.E.Enclosure.ends c.loop-i.sum) _ c.loop-i.invariant (rectangle_of g.E.Enclosure.ends c.in_ok-next.next) (rw (c.branches_from.ensures, c.branches_from-in-loop-i.ensures) at c.in_ok-next.ensures)

pub returns-in_err-next : goal.returns-in_err-next
returns-in_err-next g c =
    let low = c.args.low.now in
    let high = c.args.high.now in
    let count = zip_count BranchUpTo exact_branch low high c.requires.ordered in
    rw c.from_residual.ensures
    (all_stops g.E.Enclosure.SCALE (g.E.Enclosure.ends c.args.order) c.args.ordering.now c.args.volts.now c.args.owner c.args.node low high c.loop-i.i c.index-low-i.result c.index-high-i.result c.loop-i-test.true c.index-low-i.is (omega (arith, c.loop-i-test.true, count)) c.index-high-i.is
    (rectangle_of g.E.Enclosure.ends c.loop-i.sum) _ c.loop-i.invariant (rw (c.branches_from.ensures, c.branches_from-in-loop-i.ensures) at c.in_err-next.ensures))
