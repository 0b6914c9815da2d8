use Rattle.element_parts.proofs.Adding.{plain_parts, room}
use Rattle.line_pi.proofs.Sound.{line_sound}
use Rattle.line_pi.proofs.line.add_line.Goals as goal

pub add_plain-requires-clause-plain : goal.add_plain-requires-clause-plain
add_plain-requires-clause-plain c =
    plain_parts _ _ _ _ c.line_parts-parts.ensures (line_sound _ _ _ _ _ c.requires.study c.requires.line (room _ _ c.requires.whole c.requires.buses))

pub returns : goal.returns
returns c = c.add_plain.ensures _ c.line_parts-parts.ensures
