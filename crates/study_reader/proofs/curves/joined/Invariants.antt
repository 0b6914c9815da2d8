use Rattle.std.proofs.Common.{◌≡◌, ◌++◌, length, take, drop}
use Rattle.study_model.specs.declared.curve.TheConstants.{MAX_CURVE_POINTS}
use Rattle.study_reader.specs.Curves.{points_of}
use Rattle.study_reader.proofs.curves.joined.Given as goal

abbrev pub invariant-loop-i : goal.invariant-loop-i
invariant-loop-i l = record {
  places : length l.points ≡ MAX_CURVE_POINTS;
  joined : take l.i l.points ++ points_of (drop l.i l.orders) (drop l.i l.ohms) ≡ points_of l.orders l.ohms;
}
