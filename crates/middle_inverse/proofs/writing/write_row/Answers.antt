use Rattle.std.proofs.Common.{◌≡◌, ◌++◌, length, ap, ap₂, ◌∙◌, arith}
use Rattle.std.proofs.lemmas.List.{map-append, length-drop}
use Rattle.middle_inverse.specs.Points.{rectangle_at}
use Rattle.plain_elimination.specs.Matrix.{nought_rectangle}
use Rattle.middle_inverse.specs.Inverse.{one_rectangle, unit_row}
use Rattle.middle_inverse.proofs.writing.write_row.Goals as goal

pub returns : goal.returns
returns g c =
    let back = c.split_at_mut-left.ensures.back in
    let size : length c.split_at_mut-left.result.1.now ≡ length c.args.from.now = omega (arith, ap length back, length-drop (length c.args.from.now) c.args.row.now) in
    map-append rectangle_at c.write_middles.new.row c.write_unit_points.new.row
    ∙ ap₂ (λ a b. a ++ b) c.write_middles.ensures (c.write_unit_points.ensures ∙ ap (λ n. unit_row (one_rectangle g.E.Enclosure.SCALE) nought_rectangle n c.args.place) size)
