use Rattle.std.proofs.Common.{◌^◌, arith}
use Rattle.std.proofs.lemmas.Int.{ints}
use Rattle.std.proofs.lemmas.Nat.{pow_pos}
use Rattle.fraction_sum.proofs.Ends.{no_end_above, no_end_below}
use Rattle.fraction_sum.proofs.end.end_from.Goals as goal

pub returns-then-whole : goal.returns-then-whole
returns-then-whole c = no_end_below c.args.whole (2 ^ c.args.s) c.args.number (pow_pos c.args.s) c.requires.below (omega (arith, ints))

pub returns-then-whole-gt-END : goal.returns-then-whole-gt-END
returns-then-whole-gt-END c = no_end_above c.args.whole (2 ^ c.args.s) c.args.number (pow_pos c.args.s) (omega (arith, ints))
