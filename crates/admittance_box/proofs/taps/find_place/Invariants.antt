use Rattle.std.proofs.Common.{◌≡◌, ◌+◌, drop}
use Rattle.std.specs.Option.{option_map}
use Rattle.admittance_box.specs.Places.{place_of}
use Rattle.admittance_box.proofs.taps.find_place.Given as goal

abbrev pub invariant-loop-i : goal.invariant-loop-i
invariant-loop-i l = place_of l.ordering l.node ≡ option_map (λ k. l.i + k) (place_of (drop l.i l.ordering) l.node)
