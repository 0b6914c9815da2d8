use Rattle.std.proofs.Common.{◌≡◌, ◌++◌, drop}
use Rattle.toml.specs.View.{items_view}
use Rattle.study_model.specs.declared.range.TheConstants.Range.{ABOVE_ZERO}
use Rattle.study_reader.specs.Curves.{items_fault}
use Rattle.study_reader.specs.Variants.{decimals_in}
use Rattle.study_reader.proofs.candidates.sizes_in.Given as goal

abbrev pub invariant-loop-value : goal.invariant-loop-value
invariant-loop-value l = record {
  fault : items_fault l.place ABOVE_ZERO (items_view (drop l.value-index l.values)) ≡ items_fault l.place ABOVE_ZERO (items_view l.values);
  sizes : l.sizes.items ++ decimals_in (items_view (drop l.value-index l.values)) ≡ decimals_in (items_view l.values);
}
