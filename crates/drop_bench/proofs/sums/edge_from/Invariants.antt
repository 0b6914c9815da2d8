use Rattle.std.proofs.Common.{◌≡◌, drop, map}
use Rattle.admittance_box.specs.Intervals.{placed_ends}
use Rattle.branchwise_test.specs.Reach.{edge_from}
use Rattle.drop_bench.proofs.sums.edge_from.Given as goal

abbrev pub invariant-loop-tap : goal.invariant-loop-tap
invariant-loop-tap g l =
    edge_from g.E.Enclosure.SCALE l.sum (map (placed_ends g.E.Enclosure.ends) (drop l.tap-index l.taps)) l.numbers
    ≡ edge_from g.E.Enclosure.SCALE 0 (map (placed_ends g.E.Enclosure.ends) l.taps) l.numbers
