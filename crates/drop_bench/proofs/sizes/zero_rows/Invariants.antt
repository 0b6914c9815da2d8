use Rattle.std.proofs.Common.{◌≡◌, length}
use Rattle.std.specs.List.{All}
use Rattle.drop_bench.proofs.sizes.zero_rows.Given as goal

abbrev pub invariant-loop-row : goal.invariant-loop-row
invariant-loop-row l = (length l.rows.items ≡ l._row) × All (λ r. length r.items ≡ l.width) l.rows.items
