use Rattle.std.proofs.Common.{◌≡◌, take}
use Rattle.plain_elimination.specs.Pattern.{IsZeroOutside}
use Rattle.arithmetic_cases.proofs.patterns.matrix_of.Given as goal

abbrev pub invariant-loop-i : goal.invariant-loop-i
invariant-loop-i l = record {
  size : l.matrix.size ≡ l.pattern.size;
  zeros : IsZeroOutside (take l.i l.pattern.places.items) l.matrix;
}
