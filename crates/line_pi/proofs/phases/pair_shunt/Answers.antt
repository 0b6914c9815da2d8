use Rattle.element_parts.proofs.Values.{kv_within}
use Rattle.line_pi.proofs.phases.pair_shunt.Goals as goal

pub difference_share-b-requires-clause-kv : goal.difference_share-b-requires-clause-kv
difference_share-b-requires-clause-kv c = rw c.kv-kv.ensures (kv_within _ _ c.requires.study.buses c.requires.line.from)
