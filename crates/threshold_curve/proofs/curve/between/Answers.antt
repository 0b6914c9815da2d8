use Rattle.std.proofs.Common.{◌+ℤ◌, FitsSigned, arith}
use Rattle.std.specs.Int.{w128}
use Rattle.std.proofs.lemmas.Int.{ints, to_z-of_z}
use Rattle.threshold_curve.proofs.Lines.{between_whole}
use Rattle.threshold_curve.proofs.curve.between.Goals as goal

pub returns-clause-value : goal.returns-clause-value
returns-clause-value c =
    let value = c.part.ensures.value in
    let value₂ = c.part-2.ensures.value in
    let f1 : FitsSigned w128 c.part.result = omega (arith, ints, c.part.ensures, c.requires) in
    let f2 : FitsSigned w128 c.part-2.result = omega (arith, ints, c.part-2.ensures, c.requires) in
    let f3 : FitsSigned w128 (c.part.result +ℤ c.part-2.result) = omega (arith, ints, c.part.ensures, c.part-2.ensures, c.requires) in
    simp to_z-of_z (between_whole c.args.p c.args.q c.args.x _ _ (omega (arith, ints, value, value₂)) (omega (arith, ints)))
