use Rattle.std.proofs.Common.{◌∙◌, ap, sym}
use Rattle.std.specs.Option.{option_map}
use Rattle.middle_inverse.specs.Divisor.{divisor_ends}
use Rattle.middle_inverse.specs.Points.{rectangle_at}
use Rattle.middle_inverse.proofs.Divisors.{quotient_known, no_quotient}
use Rattle.middle_inverse.proofs.point.quotient.Goals as goal

pub returns-in-Some : goal.returns-in-Some
returns-in-Some g c =
    let known = ap (option_map (divisor_ends g.E.Enclosure.ends)) (sym c.in-Some.is) ∙ c.requires in
    c.quotient_over.ensures ∙ quotient_known g.E.Enclosure.SCALE (rectangle_at c.args.a) (rectangle_at c.args.b) (divisor_ends g.E.Enclosure.ends c.in-Some.d) known

pub returns-in-None : goal.returns-in-None
returns-in-None g c =
    let known = ap (option_map (divisor_ends g.E.Enclosure.ends)) (sym c.in-None.is) ∙ c.requires in
    sym (no_quotient g.E.Enclosure.SCALE (rectangle_at c.args.a) (rectangle_at c.args.b) known)
