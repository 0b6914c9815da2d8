use Rattle.std.proofs.Common.{◌^◌, arith}
use Rattle.std.proofs.lemmas.Int.{unsigned_abs-mul}
use Rattle.std.proofs.lemmas.Nat.{mul-le}
use Rattle.exact_fraction.proofs.Steps.{product_back}
use Rattle.fraction_sum.proofs.end.small_product.Goals as goal

pub returns-clause-value : goal.returns-clause-value
returns-clause-value c = product_back c.args.a c.args.b (2 ^ 63) (2 ^ 48) c.ranges.a c.ranges.b c.requires.first c.requires.second (omega arith)

pub returns-clause-bound : goal.returns-clause-bound
returns-clause-bound c =
    rw (product_back c.args.a c.args.b (2 ^ 63) (2 ^ 48) c.ranges.a c.ranges.b c.requires.first c.requires.second (omega arith), unsigned_abs-mul)
    (omega (arith, mul-le _ _ _ _ c.requires.first c.requires.second))
