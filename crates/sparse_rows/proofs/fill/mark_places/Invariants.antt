use Rattle.std.proofs.Common.{take}
use Rattle.sparse_rows.specs.Marks.{Covers, Grown}
use Rattle.sparse_rows.proofs.fill.mark_places.Given as goal

abbrev pub invariant-loop-i : goal.invariant-loop-i
invariant-loop-i l = record {
  here : Covers l.size (take l.i l.places) l.marks;
  grown : Grown l.size 0 l.initial.marks l.marks;
}
