use Rattle.std.proofs.Common.{rules, FitsSigned}
use Rattle.std.specs.Int.{w64, w128}
use Rattle.std.proofs.lemmas.Int.{to_z-of_z}
use Rattle.complex_interval.proofs.Held.{rounded_ordered, least_greatest}
use Rattle.complex_interval.proofs.whole.mul_ends_of.Goals as goal

pub pair_in_range-requires : goal.pair_in_range-requires
pair_in_range-requires c =
    let f1 : FitsSigned w128 c.end_product-first.result = search rules in
    let f2 : FitsSigned w128 c.end_product-second.result = search rules in
    let f3 : FitsSigned w128 c.end_product-third.result = search rules in
    let f4 : FitsSigned w128 c.end_product-fourth.result = search rules in
    let f5 : FitsSigned w128 c.least.result = search rules in
    let f6 : FitsSigned w128 c.greatest.result = search rules in
    let f7 : FitsSigned w128 c.floor_shift-low.result = search rules in
    let f8 : FitsSigned w128 c.ceil_shift-high.result = search rules in
    let least = simp to_z-of_z at c.least.ensures in
    let greatest = simp to_z-of_z at c.greatest.ensures.value in
    let low = simp to_z-of_z at c.floor_shift-low.ensures in
    let high = simp to_z-of_z at c.ceil_shift-high.ensures in
    rw (to_z-of_z w128 _ f7, to_z-of_z w128 _ f8, low, high)
    (rounded_ordered c.least.result c.greatest.result c.args.scale
    (rw (least, greatest) (least_greatest c.end_product-first.result c.end_product-second.result c.end_product-third.result c.end_product-fourth.result)))

pub returns : goal.returns
returns c =
    let f1 : FitsSigned w128 c.end_product-first.result = search rules in
    let f2 : FitsSigned w128 c.end_product-second.result = search rules in
    let f3 : FitsSigned w128 c.end_product-third.result = search rules in
    let f4 : FitsSigned w128 c.end_product-fourth.result = search rules in
    let f5 : FitsSigned w128 c.least.result = search rules in
    let f6 : FitsSigned w128 c.greatest.result = search rules in
    let f7 : FitsSigned w128 c.floor_shift-low.result = search rules in
    let f8 : FitsSigned w128 c.ceil_shift-high.result = search rules in
    let g1 : FitsSigned w64 c.args.a.low = search rules in
    let g2 : FitsSigned w64 c.args.a.high = search rules in
    let g3 : FitsSigned w64 c.args.b.low = search rules in
    let g4 : FitsSigned w64 c.args.b.high = search rules in
    let least = simp to_z-of_z at c.least.ensures in
    let greatest = simp to_z-of_z at c.greatest.ensures.value in
    let low = simp to_z-of_z at c.floor_shift-low.ensures in
    let high = simp to_z-of_z at c.ceil_shift-high.ensures in
    let first = simp to_z-of_z at c.end_product-first.ensures.value in
    let second = simp to_z-of_z at c.end_product-second.ensures.value in
    let third = simp to_z-of_z at c.end_product-third.ensures.value in
    let fourth = simp to_z-of_z at c.end_product-fourth.ensures.value in
    let pair = simp to_z-of_z at c.pair_in_range.ensures in
    rw (pair, low, high, least, greatest, first, second, third, fourth)
