use Rattle.std.proofs.Common.{◌≡◌, ◌+◌, ◌*◌, ◌^◌, ◌<◌}
use Rattle.fraction_sum.proofs.parts.scaled_split.Given as goal

abbrev pub invariant-loop-i : goal.invariant-loop-i
invariant-loop-i l = (l.quotient * l.den + l.left ≡ l.rest * 2 ^ l._i) × (l.left < l.den) × (l.quotient < 2 ^ l._i)
