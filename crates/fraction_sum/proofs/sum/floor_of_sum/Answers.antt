use Rattle.std.proofs.Common.{FitsSigned, w64, unsigned_abs, ◌-◌, ap, arith, suc, ◌≡◌}
use Rattle.std.specs.Int.{w128}
use Rattle.std.proofs.lemmas.Int.{ints, to_z-of_z}
use Rattle.exact_fraction.specs.Fraction.{ratio_of}
use Rattle.exact_fraction.specs.Scaled.{end_of}
use Rattle.fraction_sum.proofs.Sums.{floor_sum}
use Rattle.fraction_sum.proofs.sum.floor_of_sum.Goals as goal

pub returns : goal.returns
returns c =
    let x = c.args.x in
    let y = c.args.y in
    let f1 : FitsSigned w64 c.args.j = omega (arith, ints, c.requires.first) in
    let f2 : FitsSigned w64 c.args.k = omega (arith, ints, c.requires.second) in
    let f3 : FitsSigned w128 x.num = omega (arith, ints, x.num_fits) in
    let f4 : FitsSigned w128 y.num = omega (arith, ints, y.num_fits) in
    let f5 : FitsSigned w128 x.den = omega (arith, ints, x.den_fits) in
    let f6 : FitsSigned w128 y.den = omega (arith, ints, y.den_fits) in
    let f7 : FitsSigned w128 c.multiple.result = omega (arith, ints, c.multiple.ensures.bound) in
    let f8 : FitsSigned w128 c.multiple-2.result = omega (arith, ints, c.multiple-2.ensures.bound) in
    let m = rw (to_z-of_z w64 c.args.j f1, to_z-of_z w128 x.num f3) at c.multiple.ensures.value in
    let n = rw (to_z-of_z w64 c.args.k f2, to_z-of_z w128 y.num f4) at c.multiple-2.ensures.value in
    let made = rw (to_z-of_z w128 c.multiple.result f7, to_z-of_z w128 c.multiple-2.result f8, to_z-of_z w128 x.den f5, to_z-of_z w128 y.den f6) at c.floor_end.ensures in
    let d : suc (unsigned_abs x.den - 1) ≡ unsigned_abs x.den = omega (arith, ints, x.den_positive) in
    let e : suc (unsigned_abs y.den - 1) ≡ unsigned_abs y.den = omega (arith, ints, y.den_positive) in
    rw made (ap end_of (floor_sum (ratio_of x) (ratio_of y) c.args.j c.args.k c.multiple.result c.multiple-2.result (unsigned_abs x.den) (unsigned_abs y.den) c.args.s d e m n))
