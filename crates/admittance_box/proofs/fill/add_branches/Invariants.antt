use Rattle.std.proofs.Common.{◌≡◌, drop, map}
use Rattle.admittance_box.specs.BoxMatrix.{with_addends}
use Rattle.admittance_box.specs.Intervals.{addend_of}
use Rattle.admittance_box.proofs.fill.add_branches.Given as goal

abbrev pub invariant-loop-i : goal.invariant-loop-i
invariant-loop-i g l =
    (with_addends g.E.Enclosure.SCALE (g.E.Enclosure.ends l.order) l.i (map (addend_of g.E.Enclosure.ends) (drop l.i l.branches)) l.matrix.rows
    ≡ with_addends g.E.Enclosure.SCALE (g.E.Enclosure.ends l.order) 0 (map (addend_of g.E.Enclosure.ends) l.branches) l.initial.matrix.rows)
    × (l.matrix.size ≡ l.initial.matrix.size)
