use Rattle.arithmetic_cases.proofs.Entries.{entry_other, not_here}
use Rattle.arithmetic_cases.proofs.patterns.set_at.Goals as goal

pub returns-clause-others : goal.returns-clause-others
returns-clause-others c = rw c.set.ensures (λ r k none. entry_other _ _ _ r k _ (not_here c.args.places.now c.args.i r k _ c.requires.place_in none))
