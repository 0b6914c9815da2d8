use Rattle.std.proofs.Common.{FitsSigned, arith}
use Rattle.std.specs.Int.{w64}
use Rattle.std.proofs.lemmas.Int.{ints, to_z-of_z}
use lib.IntN.{◌+ℤ◌, ◌-ℤ◌}
use Rattle.middle_inverse.proofs.Near.{less_near, some_as}
use Rattle.middle_inverse.proofs.point.less_parts.Goals as goal

pub overflow_sub-first : goal.overflow_sub-first
overflow_sub-first c =
    let b1 = c.in_ok-first.ensures.1 in
    let b2 = c.in_ok-second.ensures.1 in
    let f1 : FitsSigned w64 c.in_ok-first.first = omega (arith, ints) in
    let f2 : FitsSigned w64 c.in_ok-second.second = omega (arith, ints) in
    simp to_z-of_z (omega (arith, ints))

pub overflow_sub-a : goal.overflow_sub-a
overflow_sub-a c =
    let b1 = c.in_ok-first.ensures.1 in
    let b2 = c.in_ok-second.ensures.1 in
    let ba = c.args.a.re_fits in
    let f1 : FitsSigned w64 c.in_ok-first.first = omega (arith, ints) in
    let f2 : FitsSigned w64 c.in_ok-second.second = omega (arith, ints) in
    let fa : FitsSigned w64 c.args.a.re = omega (arith, ints) in
    let f5 : FitsSigned w64 (c.in_ok-first.first -ℤ c.in_ok-second.second) = omega (arith, ints) in
    simp to_z-of_z (omega (arith, ints))

pub returns : goal.returns
returns c =
    let s = c.args.scale in
    let f = c.args.f in
    let a = c.args.a in
    let a0 = c.args.a0 in
    let l1 = c.in_ok-first.first in
    let h2 = c.in_ok-second.second in
    let l3 = c.in_ok-third.third in
    let l4 = c.in_ok-fourth.fourth in
    let f_re = f.re_fits in
    let f_im = f.im_fits in
    let a0_re = a0.re_fits in
    let a0_im = a0.im_fits in
    let g1 : FitsSigned w64 f.re = omega (arith, ints) in
    let g2 : FitsSigned w64 f.im = omega (arith, ints) in
    let g3 : FitsSigned w64 a0.re = omega (arith, ints) in
    let g4 : FitsSigned w64 a0.im = omega (arith, ints) in
    let e1 = simp to_z-of_z at c.in_ok-first.ensures in
    let e2 = simp to_z-of_z at c.in_ok-second.ensures in
    let e3 = simp to_z-of_z at c.in_ok-third.ensures in
    let e4 = simp to_z-of_z at c.in_ok-fourth.ensures in
    let ra = a.re_fits in
    let ia = a.im_fits in
    let f1 : FitsSigned w64 l1 = omega (arith, ints, e1.1) in
    let f2 : FitsSigned w64 h2 = omega (arith, ints, e2.1) in
    let f3 : FitsSigned w64 l3 = omega (arith, ints, e3.1) in
    let f4 : FitsSigned w64 l4 = omega (arith, ints, e4.1) in
    let fr : FitsSigned w64 a.re = omega (arith, ints) in
    let fi : FitsSigned w64 a.im = omega (arith, ints) in
    let f5 : FitsSigned w64 (l1 -ℤ h2) = omega (arith, ints, e1.1, e2.1) in
    let f6 : FitsSigned w64 (l3 +ℤ l4) = omega (arith, ints, e3.1, e4.1) in
    let f7 : FitsSigned w64 (a.re -ℤ (l1 -ℤ h2)) = omega (arith, ints, e1.1, e2.1) in
    let f8 : FitsSigned w64 (a.im -ℤ (l3 +ℤ l4)) = omega (arith, ints, e3.1, e4.1) in
    let parts = simp to_z-of_z at c.point_of.ensures in
    some_as c.point_of.result _ _ (λ x p. less_near s f a a0 x l1 h2 l3 l4 e1.0 e2.0 e3.0 e4.0 e1.1 e2.1 e3.1 e4.1 p.0 p.1) parts
