use Rattle.std.proofs.Common.{◌≡◌, take, map}
use Rattle.complex_interval.specs.Rect.{rectangle_of}
use Rattle.sparse_rows.proofs.load.load_sides.Given as goal

abbrev pub invariant-loop-i : goal.invariant-loop-i
invariant-loop-i g l = take l.i (map (rectangle_of g.E.Enclosure.ends) l.sides) ≡ take l.i l.right
