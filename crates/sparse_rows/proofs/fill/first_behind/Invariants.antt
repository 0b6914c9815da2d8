use Rattle.std.proofs.Common.{◌≡◌, ℕ, ◌+◌, ◌*◌, ◌<◌, get_or, false}
use Rattle.sparse_rows.proofs.fill.first_behind.Given as goal

abbrev pub invariant-loop-j : goal.invariant-loop-j
invariant-loop-j l = (i : ℕ) → l.k < i → i < l.j → get_or l.marks (l.k * l.size + i) false ≡ false
