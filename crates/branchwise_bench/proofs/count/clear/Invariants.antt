use Rattle.std.proofs.Common.{◌≡◌, ◌++◌, drop, map, take}
use Rattle.drop_bench.specs.Drops.{drop_ends, bare}
use Rattle.branchwise_bench.proofs.count.clear.Given as goal

abbrev pub invariant-loop-i : goal.invariant-loop-i
invariant-loop-i g l =
    take l.i (map (drop_ends g.E.Enclosure.ends) l.drops) ++ map bare (drop l.i (map (drop_ends g.E.Enclosure.ends) l.drops)) ≡ map bare (map (drop_ends g.E.Enclosure.ends) l.initial.drops)
