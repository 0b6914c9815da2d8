use Rattle.std.proofs.Common.{◌≤◌, ◌*◌, ◌∙◌, ap, pos, arith, ◌^◌}
use Rattle.band_subdivision.specs.Levels.{levels_in}
use Rattle.band_subdivision.proofs.TestSteps.{ohms_fit, kv_fits, ohms_are, passed}
use Rattle.band_subdivision.proofs.interval_test.micro_ohms.Goals as goal

pub signed-requires : goal.signed-requires
signed-requires c =
    let kv : c.size_of-kv.result ≤ 2 ^ 31 = rw c.size_of-kv.ensures.size (kv_fits (levels_in c.args.levels.now) c.requires.in_range.levels) in
    let fits = ohms_fit c.size_of-kv.result c.unit_of.result (c.size_of.result * c.root_ceil.result) kv c.unit_of.ensures.bound in
    omega arith

pub returns : goal.returns
returns c =
    let kv : c.size_of-kv.result ≤ 2 ^ 31 = rw c.size_of-kv.ensures.size (kv_fits (levels_in c.args.levels.now) c.requires.in_range.levels) in
    let fits = ohms_fit c.size_of-kv.result c.unit_of.result (c.size_of.result * c.root_ceil.result) kv c.unit_of.ensures.bound in
    passed c.signed.result _ c.signed.ensures (omega arith)
    ∙ ap pos (ohms_are c.args.scale (levels_in c.args.levels.now) c.args.high c.size_of-kv.result c.size_of.result c.unit_of.result c.root_ceil.result
    c.size_of-kv.ensures.size c.size_of.ensures.size c.unit_of.ensures.value c.root_ceil.ensures.square c.root_ceil.ensures.least)
