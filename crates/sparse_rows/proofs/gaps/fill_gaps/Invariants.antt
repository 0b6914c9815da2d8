use Rattle.sparse_rows.proofs.RowGaps.{FilledFrom}
use Rattle.sparse_rows.proofs.gaps.fill_gaps.Given as goal

abbrev pub invariant-loop-j : goal.invariant-loop-j
invariant-loop-j l = FilledFrom l.marks l.gaps l.gap l.j

abbrev pub decreases-loop-j : goal.decreases-loop-j
decreases-loop-j l = l.j
