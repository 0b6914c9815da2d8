use Rattle.std.proofs.Common.{◌≡◌, ◌++◌, drop, map}
use Rattle.std.specs.Option.{option_map}
use Rattle.middle_inverse.specs.Lists.{each}
use Rattle.admittance_box.specs.Intervals.{placed_ends}
use Rattle.branchwise_test.specs.Drops.{opposed_tap}
use Rattle.branchwise_live.proofs.even.opposed.Given as goal

abbrev pub invariant-loop-i : goal.invariant-loop-i
invariant-loop-i g l =
    each opposed_tap (map (placed_ends g.E.Enclosure.ends) l.taps)
    ≡ option_map (λ more. map (placed_ends g.E.Enclosure.ends) l.all.items ++ more) (each opposed_tap (map (placed_ends g.E.Enclosure.ends) (drop l.i l.taps)))
