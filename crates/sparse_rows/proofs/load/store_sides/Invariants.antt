use Rattle.std.proofs.Common.{◌≡◌, length, take, map}
use Rattle.complex_interval.specs.Rect.{rectangle_of}
use Rattle.sparse_rows.proofs.load.store_sides.Given as goal

abbrev pub invariant-loop-i : goal.invariant-loop-i
invariant-loop-i g l = record {
  size : length l.right ≡ length l.sides;
  front : take l.i l.right ≡ take l.i (map (rectangle_of g.E.Enclosure.ends) l.sides);
}
