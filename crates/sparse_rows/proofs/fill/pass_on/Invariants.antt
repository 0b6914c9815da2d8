use Rattle.sparse_rows.proofs.Marks.{PassedTo}
use Rattle.sparse_rows.proofs.fill.pass_on.Given as goal

abbrev pub invariant-loop-j : goal.invariant-loop-j
invariant-loop-j l = PassedTo l.size l.k l.p l.initial.marks l.marks l.j
