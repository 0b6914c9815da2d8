use Rattle.std.proofs.Common.{◌∙◌, ap, pos, arith}
use Rattle.band_subdivision.proofs.TestSteps.{unit_is, passed}
use Rattle.band_subdivision.proofs.scan_levels.threshold_of.Goals as goal

pub returns : goal.returns
returns c =
    let value = rw c.unwrap.ensures at c.new.ensures.value in
    unit_is c.args.levels.now c.requires c.unwrap.result
    (value.0 ∙ passed c.signed-top.result c.power_of.result c.signed-top.ensures (omega (arith, c.power_of.ensures.bound)) ∙ ap pos c.power_of.ensures.value)
    (value.1 ∙ passed c.signed-below.result c.volts_of.result c.signed-below.ensures (omega (arith, c.volts_of.ensures.bound)) ∙ ap pos c.volts_of.ensures.value)
