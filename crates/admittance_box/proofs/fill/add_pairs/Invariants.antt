use Rattle.std.proofs.Common.{◌≡◌, drop, map}
use Rattle.complex_interval.specs.Rect.{rectangle_of}
use Rattle.admittance_box.specs.BoxMatrix.{with_pairs}
use Rattle.admittance_box.specs.Intervals.{pair_ends}
use Rattle.admittance_box.proofs.fill.add_pairs.Given as goal

abbrev pub invariant-loop-pair : goal.invariant-loop-pair
invariant-loop-pair g l =
    (with_pairs g.E.Enclosure.SCALE (rectangle_of g.E.Enclosure.ends l.y) (map (pair_ends g.E.Enclosure.ends) (drop l.pair-index l.pairs)) l.matrix.rows
    ≡ with_pairs g.E.Enclosure.SCALE (rectangle_of g.E.Enclosure.ends l.y) (map (pair_ends g.E.Enclosure.ends) l.pairs) l.initial.matrix.rows)
    × (l.matrix.size ≡ l.initial.matrix.size)
