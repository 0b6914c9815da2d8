use Rattle.std.proofs.Common.{ℕ, ◌<◌}
use Rattle.sparse_rows.specs.Marks.{PassesOn, Grown}
use Rattle.sparse_rows.proofs.fill.pass_rows.Given as goal

abbrev pub invariant-loop-k : goal.invariant-loop-k
invariant-loop-k l = record {
  passed : (k : ℕ) → k < l.k → PassesOn l.size l.marks k;
  grown : Grown l.size 0 l.initial.marks l.marks;
}
