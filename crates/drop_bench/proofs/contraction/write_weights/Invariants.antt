use Rattle.std.proofs.Common.{ℕ, ◌+◌, ◌/◌, ◌^◌}
use Rattle.certified_inverse.proofs.Placed.{PlacedTo}
use Rattle.certified_inverse.specs.Certificate.{in_size}
use Rattle.middle_inverse.specs.Lists.{greatest}
use Rattle.drop_bench.proofs.contraction.write_weights.Given as goal

abbrev pub invariant-loop-i : goal.invariant-loop-i
invariant-loop-i l = PlacedTo (λ (n : ℕ). n) (λ n. in_size (n + greatest l.reached / 2 ^ 20 + 65536)) l.reached l.weights l.i
