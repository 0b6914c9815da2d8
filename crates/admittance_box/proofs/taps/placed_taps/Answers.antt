use Rattle.network_theory.specs.Between.{TapUpTo}
use Rattle.net_branch.specs.Exact.{exact_tap}
use Rattle.std.proofs.Common.{◌≡◌, ◌++◌, ◌∷◌, [], arith}
use Rattle.admittance_box.specs.Intervals.{placed_ends}
use Rattle.admittance_box.proofs.TapLoops.{zip_item, zip_count, taps_more}
use Rattle.admittance_box.proofs.taps.placed_taps.Goals as goal

pub placed_tap-requires-clause-ordered : goal.placed_tap-requires-clause-ordered
placed_tap-requires-clause-ordered g c = zip_item TapUpTo exact_tap c.args.low.now c.args.high.now c.loop-i.i c.index-low-i.result c.index-high-i.result c.requires.ordered c.loop-i-test.true c.index-low-i.is c.index-high-i.is

pub loop-i-preserved : goal.loop-i-preserved
loop-i-preserved g c =
    let ends = g.E.Enclosure.ends in
    let low = c.args.low.now in
    let high = c.args.high.now in
    let i = c.loop-i.i in
    let count = zip_count TapUpTo exact_tap low high c.requires.ordered in
    let after : c.push.new.self.items ≡ c.loop-i.taps.items ++ c.in-Some.tap ∷ [] = c.in_ok-push.ensures.items in
    taps_more g.E.Enclosure.SCALE c.args.ordering.now low high i c.index-low-i.result c.index-high-i.result c.loop-i-test.true c.index-low-i.is (omega (arith, c.loop-i-test.true, count)) c.index-high-i.is
    (placed_ends ends) c.loop-i.taps.items c.push.new.self.items c.in-Some.tap _ after c.in-Some.ensures c.loop-i.invariant
