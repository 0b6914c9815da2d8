use Rattle.std.proofs.Common.{◌≡◌, ◌+◌, drop}
use Rattle.study_reader.specs.References.{named_at}
use Rattle.study_reader.proofs.tolerances.number_of_element.Given as goal

abbrev pub invariant-loop-element : goal.invariant-loop-element
invariant-loop-element l = record {
  number : l.number ≡ l.element-index + 1;
  found : named_at l.number (drop l.element-index l.elements) l.text ≡ named_at 1 l.elements l.text;
}
