use Rattle.std.proofs.Common.{◌≡◌, ◌++◌, drop, map}
use Rattle.std.specs.Option.{option_map}
use Rattle.admittance_box.specs.Addends.{pairs_with}
use Rattle.admittance_box.specs.Intervals.{placed_ends, pair_ends}
use Rattle.admittance_box.proofs.taps.push_pairs.Given as goal

abbrev pub invariant-loop-other : goal.invariant-loop-other
invariant-loop-other g l =
    option_map (λ more. map (pair_ends g.E.Enclosure.ends) l.pairs.items ++ more) (pairs_with g.E.Enclosure.SCALE (placed_ends g.E.Enclosure.ends l.tap) (map (placed_ends g.E.Enclosure.ends) (drop l.other-index l.taps)))
    ≡ option_map (λ more. map (pair_ends g.E.Enclosure.ends) l.initial.pairs.items ++ more) (pairs_with g.E.Enclosure.SCALE (placed_ends g.E.Enclosure.ends l.tap) (map (placed_ends g.E.Enclosure.ends) l.taps))
