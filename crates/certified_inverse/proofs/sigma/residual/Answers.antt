use Rattle.std.proofs.Common.{◌≡◌, length, map, ap, ◌∙◌, sym}
use Rattle.complex_interval.specs.Rect.{rectangle_of}
use Rattle.complex_interval.specs.Rectangles.{sub_rectangles}
use Rattle.certified_inverse.specs.Certificate.{and_then, each_two, nought_rectangle, one_rectangle, unit_row}
use Rattle.certified_inverse.proofs.sigma.residual.Goals as goal

pub returns-in_err-multiply : goal.returns-in_err-multiply
returns-in_err-multiply g c =
    let ys = c.args.matrix.now.rows in
    let unit = unit_row (one_rectangle g.E.Enclosure.SCALE) nought_rectangle (length ys) c.args.place in
    rw c.from_residual.ensures (ap (λ o. and_then o (λ values. each_two sub_rectangles unit values)) c.in_err-multiply.ensures.value)

pub returns : goal.returns
returns g c =
    let rectangle = rectangle_of g.E.Enclosure.ends in
    let s = g.E.Enclosure.SCALE in
    let ys = c.args.matrix.now.rows in
    let values = map rectangle c.multiply.new.values in
    let unit = unit_row (one_rectangle s) nought_rectangle (length ys) c.args.place in
    let written : map rectangle c.write_unit.new.row ≡ unit = c.write_unit.ensures ∙ ap (λ m. unit_row (one_rectangle s) nought_rectangle m c.args.place) (c.requires.left_in ∙ sym c.in_ok-multiply.ensures.rows) in
    c.take_away.ensures ∙ ap (λ u. each_two sub_rectangles u values) written ∙ ap (λ o. and_then o (λ values. each_two sub_rectangles unit values)) c.in_ok-multiply.ensures.value
