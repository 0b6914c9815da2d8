use Rattle.std.proofs.Common.{FitsSigned, arith}
use Rattle.std.specs.Int.{w64}
use Rattle.std.proofs.lemmas.Int.{ints, to_z-of_z}
use Rattle.middle_inverse.specs.Inverse.{size_of}
use Rattle.middle_inverse.proofs.point.size_at_point.Goals as goal

pub returns : goal.returns
unfolding size_of
returns c =
    let x = c.args.x in
    let re = x.re_fits in
    let im = x.im_fits in
    let f1 : FitsSigned w64 x.re = omega (arith, ints) in
    let f2 : FitsSigned w64 x.im = omega (arith, ints) in
    let first = simp to_z-of_z at c.unsigned_abs.ensures in
    let second = simp to_z-of_z at c.unsigned_abs-2.ensures in
    omega (arith, first, second)
