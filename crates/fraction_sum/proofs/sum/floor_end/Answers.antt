use Rattle.std.proofs.Common.{FitsSigned, ◌+ℤ◌, ◌^◌, ap, sym, arith}
use Rattle.std.specs.Int.{w128}
use Rattle.std.specs.Prelude.{unsigned_abs}
use Rattle.std.proofs.lemmas.Int.{ints, to_z-of_z}
use Rattle.exact_fraction.specs.Scaled.{end_of}
use Rattle.fraction_sum.proofs.Rests.{floor_parts}
use Rattle.fraction_sum.proofs.sum.floor_end.Goals as goal

pub returns : goal.returns
returns c =
    let p = c.parts_of-first in
    let q = c.parts_of-second in
    let f1 : FitsSigned w128 c.args.m = omega (arith, ints, c.requires.m_fits) in
    let f2 : FitsSigned w128 c.args.d = omega (arith, ints, c.requires.d_fits) in
    let f3 : FitsSigned w128 c.args.n = omega (arith, ints, c.requires.n_fits) in
    let f4 : FitsSigned w128 c.args.e = omega (arith, ints, c.requires.e_fits) in
    let f5 : FitsSigned w128 p.result.whole = omega (arith, ints, p.ensures.whole) in
    let f6 : FitsSigned w128 q.result.whole = omega (arith, ints, q.ensures.whole) in
    let f7 : FitsSigned w128 (p.result.whole +ℤ q.result.whole) = omega (arith, ints, p.ensures.whole, q.ensures.whole) in
    let d = rw (to_z-of_z w128 c.args.d f2) at c.unsigned_abs.ensures.value in
    let e = rw (to_z-of_z w128 c.args.e f4) at c.unsigned_abs-2.ensures.value in
    let first = rw (to_z-of_z w128 c.args.m f1, to_z-of_z w128 c.args.d f2) at p.ensures.value in
    let second = rw (to_z-of_z w128 c.args.n f3, to_z-of_z w128 c.args.e f4) at q.ensures.value in
    let first_rest = rw (to_z-of_z w128 c.args.d f2) at p.ensures.rest in
    let second_rest = rw (to_z-of_z w128 c.args.e f4) at q.ensures.rest in
    let made = rw (to_z-of_z w128 p.result.whole f5, to_z-of_z w128 q.result.whole f6, to_z-of_z w128 (p.result.whole +ℤ q.result.whole) f7) at c.end_from.ensures in
    let low = rw (d, e) at c.carry-carried.ensures.low in
    let high = rw (d, e) at c.carry-carried.ensures.high in
    rw made
    (ap end_of
    (sym (floor_parts c.args.m c.args.n p.result.whole q.result.whole (unsigned_abs c.args.d) (unsigned_abs c.args.e) (2 ^ c.args.s) p.result.quotient q.result.quotient p.result.rest q.result.rest first second first_rest second_rest c.carry-carried.result low high)))
