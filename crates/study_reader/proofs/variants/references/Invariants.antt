use Rattle.std.proofs.Common.{◌≡◌, ◌+◌, ◌++◌, [], drop}
use Rattle.toml.specs.View.{items_view}
use Rattle.study_reader.specs.Sections.{entries_of}
use Rattle.study_reader.specs.References.{references_fault}
use Rattle.study_reader.proofs.variants.references.Given as goal

abbrev pub invariant-loop-value : goal.invariant-loop-value
invariant-loop-value g l = record {
  number : l.number ≡ l.value-index + 1;
  fault : references_fault g.R.Reference.fault g.R.Reference.value l.targets l.section l.made.items l.number (items_view (drop l.value-index l.values))
      ≡ references_fault g.R.Reference.fault g.R.Reference.value l.targets l.section [] 1 (items_view l.values);
  made : l.made.items ++ entries_of (g.R.Reference.value l.targets) (items_view (drop l.value-index l.values)) ≡ entries_of (g.R.Reference.value l.targets) (items_view l.values);
}
