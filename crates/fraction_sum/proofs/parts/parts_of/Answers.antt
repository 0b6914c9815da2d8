use Rattle.std.proofs.Common.{rules, FitsSigned, ◌^◌, arith}
use Rattle.std.specs.Int.{w128}
use Rattle.std.specs.Prelude.{unsigned_abs}
use Rattle.std.proofs.lemmas.Int.{ints, to_z-of_z}
use Rattle.exact_fraction.proofs.Steps.{parts_again}
use Rattle.fraction_sum.proofs.Rests.{scaled_parts}
use Rattle.fraction_sum.proofs.parts.parts_of.Goals as goal

pub returns-clause-value : goal.returns-clause-value
returns-clause-value c =
    let f1 : FitsSigned w128 c.args.num = omega (arith, ints, c.requires.num_fits) in
    let f2 : FitsSigned w128 c.args.den = omega (arith, ints, c.requires.den_fits) in
    let f3 : FitsSigned w128 c.div_euclid-whole.result = search rules in
    let f4 : FitsSigned w128 c.rem_euclid-rest.result = search rules in
    let whole = simp to_z-of_z at c.div_euclid-whole.ensures in
    let rest = simp to_z-of_z at c.rem_euclid-rest.ensures.value in
    let rest_abs = simp to_z-of_z at c.unsigned_abs.ensures.value in
    let den_abs = simp to_z-of_z at c.unsigned_abs-2.ensures.value in
    let split = rw (rest_abs, den_abs) at c.scaled_split-split.ensures.value in
    let again = parts_again c.args.num c.args.den c.div_euclid-whole.result c.rem_euclid-rest.result c.requires.den_positive (omega (arith, ints, c.rem_euclid-rest.ensures.lower_bound)) whole rest in
    rw (to_z-of_z w128 _ f3)
    (scaled_parts c.args.num c.div_euclid-whole.result (unsigned_abs c.args.den) (unsigned_abs c.rem_euclid-rest.result) (2 ^ c.args.s) c.scaled_split-split.result.quotient c.scaled_split-split.result.rest again split)
