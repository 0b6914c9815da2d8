use Rattle.std.proofs.Common.{◌≡◌, ◌++◌, map, drop}
use Rattle.study_reader.specs.StudyOf.{ends_of}
use Rattle.study_reader.proofs.elements.push_elements.Given as goal

abbrev pub invariant-loop-item : goal.invariant-loop-item
invariant-loop-item g l = record {
  pushed : l.elements.items ++ map ends_of (map g.E.HasEnds.element (drop l.item-index l.items)) ≡ l.initial.elements.items ++ map ends_of (map g.E.HasEnds.element l.items);
}
