use Rattle.std.proofs.Common.{◌≡◌, Some, None, map, sym, ap, ◌∙◌}
use Rattle.complex_interval.specs.Rect.{rectangle_of}
use Rattle.complex_interval.specs.Rectangles.{sub_rectangles}
use Rattle.plain_elimination.specs.Matrix.{nought_rectangle}
use Rattle.middle_inverse.specs.Lists.{each, each_two}
use Rattle.middle_inverse.specs.Inverse.{one_rectangle, unit_row}
use Rattle.certified_inverse.proofs.Greatest.{length-unit_row, row_left-by}
use Rattle.admittance_box.specs.Steps.{◌>>=◌}
use Rattle.branchwise_test.specs.Sizes.{kept_size}
use Rattle.drop_bench.proofs.left.write_left_row.Goals as goal

pub returns-in_err-combine_listed : goal.returns-in_err-combine_listed
returns-in_err-combine_listed g c =
    let s = g.E.Enclosure.SCALE in
    let n = c.args.matrix.now.size in
    let unit = unit_row (one_rectangle s) nought_rectangle n c.args.place in
    let none = row_left-by s c.args.matrix.now.rows unit (map (rectangle_of g.E.Enclosure.ends) c.args.factors.now) n None (length-unit_row (one_rectangle s) nought_rectangle n c.args.place) c.in_err-combine_listed.ensures in
    rw c.from_residual.ensures (sym (ap (λ o. o >>= each kept_size) none))

pub returns-in_err-take_away : goal.returns-in_err-take_away
returns-in_err-take_away g c =
    let rectangle = rectangle_of g.E.Enclosure.ends in
    let s = g.E.Enclosure.SCALE in
    let n = c.args.matrix.now.size in
    let unit = unit_row (one_rectangle s) nought_rectangle n c.args.place in
    let sums = map rectangle c.combine_listed.new.sums in
    let written : map rectangle c.write_unit.new.row ≡ unit = c.write_unit.ensures ∙ ap (λ m. unit_row (one_rectangle s) nought_rectangle m c.args.place) c.requires.unit_in in
    let row = row_left-by s c.args.matrix.now.rows unit (map rectangle c.args.factors.now) n (Some sums) (length-unit_row (one_rectangle s) nought_rectangle n c.args.place) c.in_ok-combine_listed.ensures in
    let none = row ∙ ap (λ u. each_two sub_rectangles u sums) (sym written) ∙ sym c.in_err-take_away.ensures in
    rw c.from_residual-in_err-take_away.ensures (sym (ap (λ o. o >>= each kept_size) none))

pub returns : goal.returns
returns g c =
    let rectangle = rectangle_of g.E.Enclosure.ends in
    let s = g.E.Enclosure.SCALE in
    let n = c.args.matrix.now.size in
    let unit = unit_row (one_rectangle s) nought_rectangle n c.args.place in
    let sums = map rectangle c.combine_listed.new.sums in
    let written : map rectangle c.write_unit.new.row ≡ unit = c.write_unit.ensures ∙ ap (λ m. unit_row (one_rectangle s) nought_rectangle m c.args.place) c.requires.unit_in in
    let row = row_left-by s c.args.matrix.now.rows unit (map rectangle c.args.factors.now) n (Some sums) (length-unit_row (one_rectangle s) nought_rectangle n c.args.place) c.in_ok-combine_listed.ensures in
    let done = row ∙ ap (λ u. each_two sub_rectangles u sums) (sym written) ∙ sym c.in_ok-take_away.ensures in
    c.write_sizes.ensures ∙ sym (ap (λ o. o >>= each kept_size) done)
