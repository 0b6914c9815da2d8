use Rattle.std.proofs.Common.{◌+◌, ◌*◌, false, ◌≡◌, ⊎_elim, arith}
use Rattle.std.proofs.lemmas.Bool.{cases_lt}
use Rattle.fraction_sum.proofs.Rests.{rests_below}
use Rattle.fraction_sum.proofs.sum.carry.Goals as goal

pub returns-then-carries-clause-low : goal.returns-then-carries-clause-low
returns-then-carries-clause-low c = let whole = c.carries.ensures.0 c.if-carries.true in omega arith

pub returns-then-carries-clause-high : goal.returns-then-carries-clause-high
returns-then-carries-clause-high c = let below = rests_below c.args.first c.args.first_den c.args.second c.args.second_den c.requires.first c.requires.second in omega arith

pub returns-else-carries-clause-high : goal.returns-else-carries-clause-high
returns-else-carries-clause-high c =
    let none : c.carries.result ≡ false = c.if-carries.false in
    ⊎_elim
    (λ less. omega arith)
    (λ most. let some = c.carries.ensures.1 most in cc)
    (cases_lt (c.args.first * c.args.second_den + c.args.second * c.args.first_den) (c.args.first_den * c.args.second_den))
