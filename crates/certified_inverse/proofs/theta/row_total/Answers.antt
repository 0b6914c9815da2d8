use Rattle.std.proofs.Common.{◌≡◌, Some, None, map, ap, ◌∙◌, sym}
use Rattle.std.specs.Option.{option_map}
use Rattle.complex_interval.specs.Rect.{rectangle_of}
use Rattle.complex_interval.specs.Rectangles.{sub_rectangles}
use Rattle.certified_inverse.specs.Certificate.{each_two, nought_rectangle, one_rectangle, unit_row, row_size}
use Rattle.certified_inverse.proofs.Greatest.{length-unit_row, row_left-by}
use Rattle.certified_inverse.proofs.theta.row_total.Goals as goal

pub returns-in_err-combine_listed : goal.returns-in_err-combine_listed
returns-in_err-combine_listed g c =
    let s = g.E.Enclosure.SCALE in
    let n = c.args.matrix.now.size in
    let unit = unit_row (one_rectangle s) nought_rectangle n c.args.place in
    let none = row_left-by s c.args.matrix.now.rows unit (map (rectangle_of g.E.Enclosure.ends) c.args.factors.now) n None (length-unit_row (one_rectangle s) nought_rectangle n c.args.place) c.in_err-combine_listed.ensures in
    rw c.from_residual.ensures (sym (ap (option_map row_size) none))

pub returns : goal.returns
returns g c =
    let rectangle = rectangle_of g.E.Enclosure.ends in
    let s = g.E.Enclosure.SCALE in
    let n = c.args.matrix.now.size in
    let unit = unit_row (one_rectangle s) nought_rectangle n c.args.place in
    let sums = map rectangle c.combine_listed.new.sums in
    let row = row_left-by s c.args.matrix.now.rows unit (map rectangle c.args.factors.now) n (Some sums) (length-unit_row (one_rectangle s) nought_rectangle n c.args.place) c.in_ok-combine_listed.ensures in
    let written : map rectangle c.write_unit.new.row ≡ unit = c.write_unit.ensures ∙ ap (λ m. unit_row (one_rectangle s) nought_rectangle m c.args.place) c.requires.unit_in in
    c.size_apart.ensures ∙ ap (λ u. option_map row_size (each_two sub_rectangles u sums)) written ∙ sym (ap (option_map row_size) row)
