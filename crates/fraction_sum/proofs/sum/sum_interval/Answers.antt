use Rattle.std.proofs.Common.{FitsSigned, w64, ◌∙◌, arith}
use Rattle.std.proofs.lemmas.Int.{ints, to_z-of_z}
use Rattle.exact_fraction.specs.Fraction.{ratio_of}
use Rattle.exact_fraction.specs.Scaled.{floor_scaled_of, ceil_scaled_of}
use Rattle.exact_fraction.proofs.Steps.{end_bound}
use Rattle.fraction_sum.proofs.Sums.{sum, pair_is}
use Rattle.fraction_sum.proofs.sum.sum_interval.Goals as goal

pub returns : goal.returns
returns g c =
    let s = g.E.Enclosure.SCALE in
    let z = sum (ratio_of c.args.x) (ratio_of c.args.y) c.args.j c.args.k in
    let first = c.requires.first in
    let second = c.requires.second in
    let f1 : FitsSigned w64 c.args.j = omega (arith, ints) in
    let f2 : FitsSigned w64 c.args.k = omega (arith, ints) in
    let low = rw (to_z-of_z w64 c.args.j f1, to_z-of_z w64 c.args.k f2, c.SCALE.ensures) at c.in_ok-low.ensures in
    let high = rw (to_z-of_z w64 c.args.j f1, to_z-of_z w64 c.args.k f2, c.SCALE-2.ensures) at c.in_ok-high.ensures in
    let low_bound = end_bound c.in_ok-low.low (floor_scaled_of z s) low in
    let high_bound = end_bound c.in_ok-high.high (ceil_scaled_of z s) high in
    let f3 : FitsSigned w64 c.in_ok-low.low = omega (arith, ints) in
    let f4 : FitsSigned w64 c.in_ok-high.high = omega (arith, ints) in
    let made = rw (to_z-of_z w64 c.in_ok-low.low f3, to_z-of_z w64 c.in_ok-high.high f4) at c.from_ends.ensures in
    made ∙ pair_is c.in_ok-low.low c.in_ok-high.high s z low high
