use Rattle.element_parts.proofs.Adding.{room}
use Rattle.element_parts.proofs.GroupedElements.{grouped_parts}
use Rattle.line_pi.proofs.PhaseSound.{line_phases_sound}
use Rattle.line_pi.proofs.phases.add_line_phases.Goals as goal

pub add_grouped-requires-clause-grouped : goal.add_grouped-requires-clause-grouped
add_grouped-requires-clause-grouped c =
    grouped_parts _ _ _ _ _ _ c.phase_parts-parts.ensures (line_phases_sound _ _ _ _ _ c.requires.study c.requires.line (room _ _ c.requires.whole c.requires.buses) c.requires.number) c.requires.below

pub returns : goal.returns
returns c = c.add_grouped.ensures _ c.phase_parts-parts.ensures
