use Rattle.std.proofs.Common.{◌≡◌, ◌++◌, drop, map}
use Rattle.std.specs.Option.{option_map}
use Rattle.net_branch.specs.Exact.{exact_tap}
use Rattle.admittance_box.specs.Addends.{taps_between}
use Rattle.admittance_box.specs.Intervals.{placed_ends}
use Rattle.admittance_box.proofs.taps.placed_taps.Given as goal

abbrev pub invariant-loop-i : goal.invariant-loop-i
invariant-loop-i g l =
    taps_between g.E.Enclosure.SCALE l.ordering (map exact_tap l.low) (map exact_tap l.high)
    ≡ option_map (λ more. map (placed_ends g.E.Enclosure.ends) l.taps.items ++ more) (taps_between g.E.Enclosure.SCALE l.ordering (map exact_tap (drop l.i l.low)) (map exact_tap (drop l.i l.high)))
