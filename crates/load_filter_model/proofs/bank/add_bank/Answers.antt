use Rattle.element_parts.proofs.Adding.{plain_parts, room}
use Rattle.load_filter_model.proofs.Sound.{bank_sound}
use Rattle.load_filter_model.proofs.bank.add_bank.Goals as goal

pub add_plain-requires-clause-plain : goal.add_plain-requires-clause-plain
add_plain-requires-clause-plain c =
    plain_parts _ _ _ _ c.bank_parts-parts.ensures (bank_sound _ _ _ _ _ c.requires.study c.requires.bank (room _ _ c.requires.whole c.requires.buses))

pub returns : goal.returns
returns c = c.add_plain.ensures _ c.bank_parts-parts.ensures
