use Rattle.std.proofs.Common.{arith}
use Rattle.sparse_rows.proofs.RowGaps.{gap_most}
use Rattle.sparse_rows.proofs.gaps.fill_gaps.Goals as goal

pub overflow_add-gap : goal.overflow_add-gap
overflow_add-gap c = omega (arith, gap_most c.args.marks.now c.loop-j.gaps c.loop-j.gap c.loop-j.j c.loop-j.invariant)
