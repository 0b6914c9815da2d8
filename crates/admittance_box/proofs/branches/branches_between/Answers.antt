use Rattle.std.proofs.Common.{◌≡◌, ◌++◌, ◌∷◌, [], ◌+◌, arith}
use Rattle.network_theory.specs.Between.{BranchUpTo}
use Rattle.net_branch.specs.Exact.{exact_branch}
use Rattle.admittance_box.specs.Intervals.{addend_of}
use Rattle.admittance_box.proofs.NodeLoops.{branches_more}
use Rattle.admittance_box.proofs.TapLoops.{zip_item, zip_count, zip_drop}
use Rattle.admittance_box.proofs.branches.branches_between.Goals as goal

pub first_addend-requires-clause-a_ordered : goal.first_addend-requires-clause-a_ordered
first_addend-requires-clause-a_ordered g c = zip_item BranchUpTo exact_branch c.args.low.now c.args.high.now c.loop-i.i c.index-low-i.result c.index-high-i.result c.requires.ordered c.loop-i-test.true c.index-low-i.is c.index-high-i.is

pub first_addend-requires-clause-ordered : goal.first_addend-requires-clause-ordered
first_addend-requires-clause-ordered g c = rw (c.branches_from.ensures, c.branches_from-in-loop-i.ensures) (zip_drop BranchUpTo exact_branch c.args.low.now c.args.high.now (c.loop-i.i + 1) c.requires.ordered)

pub loop-i-preserved : goal.loop-i-preserved
loop-i-preserved g c =
    let low = c.args.low.now in
    let high = c.args.high.now in
    let count = zip_count BranchUpTo exact_branch low high c.requires.ordered in
    let after : c.push.new.self.items ≡ c.loop-i.branches.items ++ c.in_ok-branch.branch ∷ [] = c.in_ok-push.ensures.items in
    branches_more g.E.Enclosure.SCALE c.args.ordering.now low high c.loop-i.i c.index-low-i.result c.index-high-i.result c.loop-i-test.true c.index-low-i.is (omega (arith, c.loop-i-test.true, count)) c.index-high-i.is
    (addend_of g.E.Enclosure.ends) c.loop-i.branches.items c.push.new.self.items c.in_ok-branch.branch _ after (rw (c.branches_from.ensures, c.branches_from-in-loop-i.ensures) at c.in_ok-branch.ensures) c.loop-i.invariant
