use Rattle.std.proofs.Common.{◌≡◌, min, take}
use Rattle.fixed_decimal.specs.Parsed.{number}
use Rattle.fixed_decimal.proofs.parse.capped_number.Given as goal

abbrev pub invariant-loop-digit : goal.invariant-loop-digit
invariant-loop-digit l = l.number ≡ min (number (take l.digit-index l.digits)) 1000000
