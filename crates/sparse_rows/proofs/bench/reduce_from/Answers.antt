use Rattle.std.proofs.Common.{sym, ap, ◌∙◌}
use Rattle.plain_elimination.specs.Layout.{rows_of}
use Rattle.plain_elimination.specs.Elimination.{reduce}
use Rattle.plain_elimination.specs.Rectangles.{rectangles}
use Rattle.sparse_rows.proofs.bench.reduce_from.Goals as goal

pub load_listed-requires-clause-outside : goal.load_listed-requires-clause-outside
load_listed-requires-clause-outside g c = λ q out. c.requires.zeros q out ∙ sym (c.requires.outside q out)

pub reduce_listed-requires-clause-zeros : goal.reduce_listed-requires-clause-zeros
reduce_listed-requires-clause-zeros g c = rw c.load_listed.ensures c.requires.outside

pub returns-clause-stated : goal.returns-clause-stated
returns-clause-stated g c = c.reduce_listed.ensures.stated ∙ ap (λ xs. reduce (rectangles g.E.Enclosure.SCALE) (rows_of c.args.size c.args.size xs)) c.load_listed.ensures
