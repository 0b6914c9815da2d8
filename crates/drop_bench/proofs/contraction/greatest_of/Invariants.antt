use Rattle.std.proofs.Common.{◌≡◌, drop, max}
use Rattle.middle_inverse.specs.Lists.{greatest}
use Rattle.drop_bench.proofs.contraction.greatest_of.Given as goal

abbrev pub invariant-loop-number : goal.invariant-loop-number
invariant-loop-number l = max l.greatest (greatest (drop l.number-index l.numbers)) ≡ greatest l.numbers
