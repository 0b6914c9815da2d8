use Rattle.std.proofs.Common.{◌≡◌, ◌+◌, drop}
use Rattle.study_reader.specs.Points.{element_at}
use Rattle.study_reader.proofs.points.place_of_element.Given as goal

abbrev pub invariant-loop-element : goal.invariant-loop-element
invariant-loop-element l = record {
  number : l.number ≡ l.element-index + 1;
  found : element_at l.number (drop l.element-index l.elements) l.text l.bus ≡ element_at 1 l.elements l.text l.bus;
}
