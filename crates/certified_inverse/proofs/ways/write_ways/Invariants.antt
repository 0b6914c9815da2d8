use Rattle.std.proofs.Common.{◌≡◌, ◌+◌, ◌<◌, ℕ, [], get_or, length, map}
use Rattle.std.specs.List.{All}
use Rattle.middle_inverse.specs.Leads.{LeadsOver}
use Rattle.certified_inverse.proofs.ways.write_ways.Given as goal

abbrev pub invariant-loop-i : goal.invariant-loop-i
invariant-loop-i g l = record {
  ways : (k : ℕ) → k < l.i → LeadsOver (get_or l.matrix.rows k []) (get_or (map (λ r. r.items) l.ways) k []);
  wide : All (λ r. length r.items ≡ l.matrix.size + 1) l.ways;
}
