use Rattle.std.proofs.Common.{◌≡◌, ◌++◌, length, take, drop}
use Rattle.study_model.specs.declared.curve.TheConstants.{MAX_CURVE_POINTS}
use Rattle.toml.specs.View.{items_view}
use Rattle.study_reader.specs.Curves.{items_fault, millionths_in}
use Rattle.study_reader.proofs.curves.millionths_in.Given as goal

abbrev pub invariant-loop-value : goal.invariant-loop-value
invariant-loop-value l = record {
  places : length l.read ≡ MAX_CURVE_POINTS;
  number : l.number ≡ l.value-index;
  fault : items_fault l.place l.range (items_view (drop l.value-index l.values)) ≡ items_fault l.place l.range (items_view l.values);
  read : take l.value-index l.read ++ millionths_in (items_view (drop l.value-index l.values)) ≡ millionths_in (items_view l.values);
}
