use Rattle.std.proofs.Common.{◌≡◌, drop, map}
use Rattle.admittance_box.specs.BoxMatrix.{nought_rows}
use Rattle.branchwise_test.specs.Drops.{with_middles}
use Rattle.drop_bench.specs.Drops.{drop_ends}
use Rattle.drop_bench.proofs.middle.write_middle.Given as goal

abbrev pub invariant-loop-drop : goal.invariant-loop-drop
invariant-loop-drop g l =
    (with_middles g.E.Enclosure.SCALE (map (drop_ends g.E.Enclosure.ends) (drop l.drop-index l.drops)) l.matrix.rows
    ≡ with_middles g.E.Enclosure.SCALE (map (drop_ends g.E.Enclosure.ends) l.drops) (nought_rows l.fn.matrix.size))
    × (l.matrix.size ≡ l.fn.matrix.size)
