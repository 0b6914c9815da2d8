use Rattle.std.proofs.Common.{ℕ, ◌+◌, ◌*◌, ◌<◌}
use Rattle.sparse_rows.specs.Marks.{IsMarked, Grown}
use Rattle.sparse_rows.proofs.fill.mark_diagonal.Given as goal

abbrev pub invariant-loop-k : goal.invariant-loop-k
invariant-loop-k l = record {
  here : (k : ℕ) → k < l.k → IsMarked l.marks (k * l.size + k);
  grown : Grown l.size 0 l.initial.marks l.marks;
}
