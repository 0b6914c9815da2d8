use Rattle.element_parts.proofs.Adding.{room}
use Rattle.element_parts.proofs.GroupedElements.{grouped_parts}
use Rattle.load_filter_model.proofs.Sound.{source_phases_sound}
use Rattle.load_filter_model.proofs.source.add_source_phases.Goals as goal

pub add_grouped-requires-clause-grouped : goal.add_grouped-requires-clause-grouped
add_grouped-requires-clause-grouped c =
    grouped_parts _ _ _ _ _ _ c.phase_parts-parts.ensures (source_phases_sound _ _ _ _ _ c.requires.study c.requires.source (room _ _ c.requires.whole c.requires.buses) c.requires.number) c.requires.below

pub returns : goal.returns
returns c = c.add_grouped.ensures _ c.phase_parts-parts.ensures
