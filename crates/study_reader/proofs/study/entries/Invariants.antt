use Rattle.std.proofs.Common.{◌≡◌, ◌+◌, ◌≤◌, ◌++◌, drop, length}
use Rattle.toml.specs.View.{items_view}
use Rattle.study_reader.specs.Checks.{name_value}
use Rattle.study_reader.specs.Sections.{entries_fault, entries_of}
use Rattle.study_reader.proofs.study.entries.Given as goal

abbrev pub invariant-loop-value : goal.invariant-loop-value
invariant-loop-value g l = record {
  number : l.number ≡ l.value-index + 1;
  few : length l.names.items ≤ length l.initial.names.items + l.value-index;
  fault : entries_fault g.E.Entry.fault l.context l.section l.names.items l.number (items_view (drop l.value-index l.values))
      ≡ entries_fault g.E.Entry.fault l.context l.section l.initial.names.items 1 (items_view l.values);
  made : l.made.items ++ entries_of (g.E.Entry.value l.context) (items_view (drop l.value-index l.values)) ≡ entries_of (g.E.Entry.value l.context) (items_view l.values);
  names : l.names.items ++ entries_of name_value (items_view (drop l.value-index l.values)) ≡ l.initial.names.items ++ entries_of name_value (items_view l.values);
}
