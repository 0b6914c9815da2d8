use Rattle.exact_fraction.proofs.Values.{order_in, order_out}
use Rattle.fraction_sum.proofs.Rests.{carry_in, carry_out}
use Rattle.fraction_sum.proofs.sum.carries.Goals as goal

pub returns : goal.returns
returns c =
    let missing = c.part-missing in
    let there = c.part in
    let test = c.at_most.ensures in (
      λ h. carry_out _ _ _ _ c.args.first c.args.first_den c.args.second c.args.second_den missing.ensures.num missing.ensures.den there.ensures.num there.ensures.den c.requires.first c.requires.second (order_out missing.result there.result (test.0 h)),
      λ h. test.1 (order_in missing.result there.result (carry_in _ _ _ _ c.args.first c.args.first_den c.args.second c.args.second_den missing.ensures.num missing.ensures.den there.ensures.num there.ensures.den c.requires.first c.requires.second h)),
    )
