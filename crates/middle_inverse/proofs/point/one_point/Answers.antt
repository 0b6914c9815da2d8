use Rattle.std.proofs.Common.{◌≡◌, ℕ, ◌^◌, ◌≤◌, ℤ, pos, FitsSigned, to_z, of_z, w64, ap, ap₂, ◌∙◌, arith}
use Rattle.std.proofs.lemmas.Int.{ints, to_z-of_z}
use Rattle.exact_fraction.proofs.Steps.{pow_at_most}
use Rattle.complex_interval.specs.Ends.{Ends}
use Rattle.complex_interval.specs.Rectangles.{Rectangle}
use Rattle.middle_inverse.specs.Inverse.{point_ends, one_rectangle}
use Rattle.middle_inverse.proofs.point.one_point.Goals as goal

passed : (z : ℤ) (n : ℕ) → z ≡ pos n → n ≤ 2 ^ 48 → to_z w64 (of_z w64 z) ≡ pos n
passed z n e small = let fits : FitsSigned w64 z = omega (arith, ints, e) in to_z-of_z w64 z fits ∙ e

pub returns : goal.returns
unfolding one_rectangle
returns g c =
    let s = g.E.Enclosure.SCALE in
    let is : c.unit_of.result ≡ pos (2 ^ s) = c.unit_of.ensures.value ∙ ap (λ s. pos (2 ^ s)) c.SCALE.ensures in
    let one = passed c.unit_of.result (2 ^ s) is (pow_at_most s 48 g.met.E.Enclosure.small_scale) in
    ap₂ (λ (re im : Ends). let b : Rectangle = record { re = re; im = im } in b) (c.point.ensures ∙ ap point_ends one) c.point-2.ensures
