use Rattle.std.proofs.Common.{◌≡◌, ℕ, refl, ap, ◌∙◌}
use Rattle.middle_inverse.specs.Inverse.{low_point, one_rectangle}
use Rattle.middle_inverse.proofs.point.one.Goals as goal

low_one : (s : ℕ) → low_point (one_rectangle s) ≡ one_rectangle s
unfolding low_point one_rectangle
low_one s = refl

pub returns : goal.returns
returns g c = c.low_point.ensures ∙ ap low_point c.one_point.ensures ∙ low_one g.E.Enclosure.SCALE
