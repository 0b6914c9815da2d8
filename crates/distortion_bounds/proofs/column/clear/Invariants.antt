use Rattle.std.proofs.Common.{◌≡◌, length, take}
use Rattle.std.specs.Prelude.{replicate}
use Rattle.plain_elimination.specs.Matrix.{nought_rectangle}
use Rattle.distortion_bounds.proofs.column.clear.Given as goal

abbrev pub invariant-loop-row : goal.invariant-loop-row
invariant-loop-row g l = record {
  size : length l.column ≡ l.size;
  front : take l.row l.column ≡ replicate l.row nought_rectangle;
}
