use Rattle.std.proofs.Common.{◌∙◌, Some, ap}
use Rattle.std.specs.Option.{option_map}
use Rattle.middle_inverse.specs.Inverse.{low_point}
use Rattle.middle_inverse.specs.Divisor.{divided_by, divisor_ends}
use Rattle.middle_inverse.proofs.point.quotient_over.Goals as goal

pub returns-in_err-whole : goal.returns-in_err-whole
returns-in_err-whole g c =
    let whole = c.in_err-whole.ensures ∙ ap (λ r. divided_by g.E.Enclosure.SCALE r (divisor_ends g.E.Enclosure.ends c.args.d)) c.rect_at.ensures in
    rw c.from_residual.ensures (ap (option_map low_point) whole)

pub returns : goal.returns
returns g c =
    let whole = c.in_ok-whole.ensures ∙ ap (λ r. divided_by g.E.Enclosure.SCALE r (divisor_ends g.E.Enclosure.ends c.args.d)) c.rect_at.ensures in
    ap Some c.low_point.ensures ∙ ap (option_map low_point) whole
