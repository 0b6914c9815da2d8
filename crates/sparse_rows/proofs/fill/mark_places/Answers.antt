use Rattle.std.proofs.Common.{◌+◌, ◌*◌, take, arith}
use Rattle.std.proofs.lemmas.List.Elements.{All-more, All-weaker}
use Rattle.sparse_rows.specs.Marks.{IsMarked, Grown}
use Rattle.sparse_rows.proofs.Marks.{grown_then}
use Rattle.sparse_rows.proofs.fill.mark_places.Goals as goal

pub loop-i-preserved : goal.loop-i-preserved
loop-i-preserved c =
    let size = c.args.size in
    let places = c.args.places.now in
    let i = c.loop-i.i in
    let mid = c.loop-i.marks in
    let new = c.mark.new.marks in
    let more : Grown size 0 mid new = c.mark.ensures.grown 0 (omega arith) (omega arith) in
    record {
      here = All-more (λ s. IsMarked new (s.row * size + s.column)) places i _ c.loop-i-test.true
          (All-weaker (λ s. IsMarked mid (s.row * size + s.column)) (λ s. IsMarked new (s.row * size + s.column)) (λ s m. more.grows (s.row * size + s.column) m) (take i places) c.loop-i.invariant.here)
          c.mark.ensures.here;
      grown = grown_then size 0 c.args.marks.now mid new c.loop-i.invariant.grown more;
    }
