use Rattle.std.proofs.Common.{◌≡◌, ◌++◌, drop, map}
use Rattle.net_branch.specs.Exact.{exact_tap}
use Rattle.admittance_box.specs.Pattern.{tap_spots}
use Rattle.admittance_box.proofs.spots.push_tap_spots.Given as goal

abbrev pub invariant-loop-tap : goal.invariant-loop-tap
invariant-loop-tap l =
    l.spots.items ++ tap_spots l.ordering (map exact_tap (drop l.tap-index l.taps)) (map exact_tap l.others) ≡ l.initial.spots.items ++ tap_spots l.ordering (map exact_tap l.taps) (map exact_tap l.others)
