use Rattle.std.proofs.Common.{arith}
use Rattle.plain_elimination.proofs.Layouts.{row_fits}
use Rattle.sparse_rows.proofs.RowGaps.{row_more}
use Rattle.sparse_rows.proofs.gaps.fill_rows.Goals as goal

pub loop-k-preserved : goal.loop-k-preserved
loop-k-preserved c =
    let size = c.args.size in
    let k = c.loop-k.k in
    let fits = row_fits k size size c.loop-k-test.true in
    row_more size k c.args.marks.now c.loop-k.gaps c.fill_gaps.new.gaps (omega arith) (omega arith) c.fill_gaps.ensures c.loop-k.invariant
