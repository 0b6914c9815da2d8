use Rattle.std.proofs.Common.{below_more, arith, ◌+◌, ◌*◌}
use Rattle.sparse_rows.specs.Marks.{IsMarked, Grown}
use Rattle.sparse_rows.proofs.Marks.{grown_none, grown_then}
use Rattle.sparse_rows.proofs.fill.mark_diagonal.Goals as goal

pub loop-k-init : goal.loop-k-init
loop-k-init c = record { here = λ k l. absurd (omega arith); grown = grown_none c.args.size 0 c.args.marks.now }

pub loop-k-preserved : goal.loop-k-preserved
loop-k-preserved c =
    let size = c.args.size in
    let new = c.mark.new.marks in
    let more : Grown size 0 c.loop-k.marks new = c.mark.ensures.grown 0 (omega arith) (omega arith) in
    record {
      here = below_more (λ k. IsMarked new (k * size + k)) c.loop-k.k (λ k l. more.grows (k * size + k) (c.loop-k.invariant.here k l)) c.mark.ensures.here;
      grown = grown_then size 0 c.args.marks.now c.loop-k.marks new c.loop-k.invariant.grown more;
    }
