use Rattle.std.proofs.Common.{length, ◌∙◌}
use Rattle.std.proofs.lemmas.List.{map-set}
use Rattle.complex_interval.specs.Rect.{rectangle_of}
use Rattle.plain_elimination.specs.Matrix.{nought_rectangle}
use Rattle.middle_inverse.specs.Inverse.{one_rectangle}
use Rattle.middle_inverse.proofs.Written.{unit_written}
use Rattle.middle_inverse.proofs.writing.write_unit.Goals as goal

pub returns : goal.returns
returns g c =
    let rectangle = rectangle_of g.E.Enclosure.ends in
    map-set rectangle c.clear_cells.new.cells c.args.place c.one_point.result
    ∙ (rw (c.clear_cells.ensures, c.one_point.ensures) (unit_written (one_rectangle g.E.Enclosure.SCALE) nought_rectangle (length c.args.row.now) c.args.place c.requires))
