use Rattle.sparse_rows.specs.Marks.{HasGaps}
use Rattle.sparse_rows.proofs.gaps.fill_rows.Given as goal

abbrev pub invariant-loop-k : goal.invariant-loop-k
invariant-loop-k l = HasGaps l.k l.size l.marks l.gaps
