use Rattle.std.proofs.Common.{◌≡◌, ◌++◌, drop, map}
use Rattle.std.specs.Option.{option_map}
use Rattle.admittance_box.specs.Addends.{tap_pairs}
use Rattle.admittance_box.specs.Intervals.{placed_ends, pair_ends}
use Rattle.admittance_box.proofs.taps.products_with.Given as goal

abbrev pub invariant-loop-tap : goal.invariant-loop-tap
invariant-loop-tap g l =
    option_map (λ more. map (pair_ends g.E.Enclosure.ends) l.pairs.items ++ more) (tap_pairs g.E.Enclosure.SCALE (map (placed_ends g.E.Enclosure.ends) (drop l.tap-index l.taps)) (map (placed_ends g.E.Enclosure.ends) l.others))
    ≡ tap_pairs g.E.Enclosure.SCALE (map (placed_ends g.E.Enclosure.ends) l.taps) (map (placed_ends g.E.Enclosure.ends) l.others)
