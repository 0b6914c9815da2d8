use Rattle.std.proofs.Common.{◌≡◌, ◌++◌, drop, map}
use Rattle.net_branch.specs.Exact.{exact_tap}
use Rattle.admittance_box.specs.Pattern.{spots_with}
use Rattle.admittance_box.proofs.spots.push_spots.Given as goal

abbrev pub invariant-loop-tap : goal.invariant-loop-tap
invariant-loop-tap l = l.spots.items ++ spots_with l.ordering l.row (map exact_tap (drop l.tap-index l.taps)) ≡ l.initial.spots.items ++ spots_with l.ordering l.row (map exact_tap l.taps)
