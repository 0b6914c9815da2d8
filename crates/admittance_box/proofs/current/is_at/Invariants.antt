use Rattle.std.proofs.Common.{◌≡◌, ◌==◌, drop, map}
use Rattle.network_theory.specs.Reach.{has_in}
use Rattle.net_branch.specs.Exact.{exact_tap}
use Rattle.admittance_box.proofs.current.is_at.Given as goal

abbrev pub invariant-loop-tap : goal.invariant-loop-tap
invariant-loop-tap l = has_in (λ m. m == l.node) (map exact_tap (drop l.tap-index l.taps)) ≡ has_in (λ m. m == l.node) (map exact_tap l.taps)
