use Rattle.std.proofs.Common.{◌∙◌, ap, pos}
use Rattle.band_subdivision.specs.Levels.{levels_in}
use Rattle.band_subdivision.proofs.TestSteps.{below_some, from_size, micro_ohms_from_is, passed}
use Rattle.band_subdivision.proofs.size_test.micro_ohms.Goals as goal

pub nonzero_div-size : goal.nonzero_div-size
nonzero_div-size c = rw (c.unit_of.ensures.value, c.size_of.ensures.size) (below_some c.args.scale (levels_in c.args.levels.now) c.requires.in_range.levels)

pub signed-requires : goal.signed-requires
signed-requires c =
    let is = micro_ohms_from_is c.args.scale (levels_in c.args.levels.now) c.args.size c.size_of-kv.result c.size_of.result c.unit_of.result c.size_of-kv.ensures.size c.size_of.ensures.size c.unit_of.ensures.value in
    rw is (from_size c.args.scale (levels_in c.args.levels.now) c.args.size c.requires.in_range.levels c.requires.fits)

pub returns : goal.returns
returns c =
    let is = micro_ohms_from_is c.args.scale (levels_in c.args.levels.now) c.args.size c.size_of-kv.result c.size_of.result c.unit_of.result c.size_of-kv.ensures.size c.size_of.ensures.size c.unit_of.ensures.value in
    passed c.signed.result _ (c.signed.ensures ∙ ap pos is) (from_size c.args.scale (levels_in c.args.levels.now) c.args.size c.requires.in_range.levels c.requires.fits)
