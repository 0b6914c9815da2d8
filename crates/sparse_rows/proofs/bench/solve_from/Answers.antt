use Rattle.std.proofs.Common.{sym, ◌∙◌}
use Rattle.sparse_rows.proofs.bench.solve_from.Goals as goal

pub load_listed-requires-clause-outside : goal.load_listed-requires-clause-outside
load_listed-requires-clause-outside g c = λ q out. c.requires.zeros q out ∙ sym (c.requires.outside q out)

pub solve_listed-requires-clause-zeros : goal.solve_listed-requires-clause-zeros
solve_listed-requires-clause-zeros g c = rw c.load_listed.ensures c.requires.outside
