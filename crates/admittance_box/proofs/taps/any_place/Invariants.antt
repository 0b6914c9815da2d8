use Rattle.std.proofs.Common.{◌≡◌, drop, map}
use Rattle.net_branch.specs.Exact.{exact_tap}
use Rattle.admittance_box.specs.Addends.{has_place}
use Rattle.admittance_box.proofs.taps.any_place.Given as goal

abbrev pub invariant-loop-tap : goal.invariant-loop-tap
invariant-loop-tap l = has_place l.ordering (map exact_tap (drop l.tap-index l.taps)) ≡ has_place l.ordering (map exact_tap l.taps)
