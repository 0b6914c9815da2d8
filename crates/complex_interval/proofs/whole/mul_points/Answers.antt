use Rattle.std.proofs.Common.{rules, FitsSigned}
use Rattle.std.specs.Int.{w128}
use Rattle.std.specs.Int.Signed.{≤ℤ_refl}
use Rattle.std.proofs.lemmas.Int.{to_z-of_z}
use Rattle.complex_interval.proofs.Held.{rounded_ordered}
use Rattle.complex_interval.proofs.whole.mul_points.Goals as goal

pub pair_in_range-requires : goal.pair_in_range-requires
pair_in_range-requires c =
    let f1 : FitsSigned w128 c.end_product-product.result = search rules in
    let f7 : FitsSigned w128 c.floor_shift.result = search rules in
    let f8 : FitsSigned w128 c.ceil_shift.result = search rules in
    let low = simp to_z-of_z at c.floor_shift.ensures in
    let high = simp to_z-of_z at c.ceil_shift.ensures in
    rw (to_z-of_z w128 _ f7, to_z-of_z w128 _ f8, low, high) (rounded_ordered c.end_product-product.result c.end_product-product.result c.args.scale (≤ℤ_refl c.end_product-product.result))
