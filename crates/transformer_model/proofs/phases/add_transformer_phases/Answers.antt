use Rattle.element_parts.proofs.Adding.{plain_parts, room}
use Rattle.transformer_model.proofs.PhaseSound.{transformer_phases_sound}
use Rattle.transformer_model.proofs.phases.add_transformer_phases.Goals as goal

pub add_plain-requires-clause-plain : goal.add_plain-requires-clause-plain
add_plain-requires-clause-plain c =
    plain_parts _ _ _ _ c.phase_parts-parts.ensures (transformer_phases_sound _ _ _ _ c.requires.study c.requires.transformer (room _ _ c.requires.whole c.requires.buses))

pub returns : goal.returns
returns c = c.add_plain.ensures _ c.phase_parts-parts.ensures
