use Rattle.sparse_rows.proofs.Marks.{marked_here, marked_grown}
use Rattle.sparse_rows.proofs.fill.mark.Goals as goal

pub returns-clause-here : goal.returns-clause-here
returns-clause-here c = marked_here c.args.size c.args.row c.args.column c.args.marks.now c.requires.row_in c.requires.column_in c.requires.square

pub returns-clause-grown : goal.returns-clause-grown
returns-clause-grown c = marked_grown c.args.size c.args.row c.args.column c.args.marks.now c.requires.row_in c.requires.column_in c.requires.square
