-- The reductions worked by hand.
use Rattle.std.proofs.Common.{refl}
use Rattle.plain_elimination.specs.Worked.{WorkedReductions}

pub worked_reductions : WorkedReductions
worked_reductions = record {
  alone = refl;
  alone_around_zero = refl;
  reduced = refl;
  stays = refl;
  first_pivot = refl;
  second_pivot = refl;
  too_great = refl;
  half = refl;
  solved = refl;
  last_pivot = refl;
  way_back = refl;
}
