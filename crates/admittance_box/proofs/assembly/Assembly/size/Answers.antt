use Rattle.admittance_box.proofs.NodeOrderings.{lists_live}
use Rattle.admittance_box.proofs.assembly.Assembly.size.Goals as goal

pub returns-clause-live : goal.returns-clause-live
returns-clause-live g c = let kept = c.self.invariant in rw (← c.self.view_is) (lists_live _ _ _ kept.whole kept.ready.driven_is_live kept.ready.ordered)
