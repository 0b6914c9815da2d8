use Rattle.std.proofs.Common.{length, ◌∙◌}
use Rattle.std.proofs.lemmas.List.{map-set}
use Rattle.middle_inverse.specs.Points.{rectangle_at}
use Rattle.plain_elimination.specs.Matrix.{nought_rectangle}
use Rattle.middle_inverse.specs.Inverse.{one_rectangle}
use Rattle.middle_inverse.proofs.Written.{unit_written}
use Rattle.middle_inverse.proofs.writing.write_unit_points.Goals as goal

pub returns : goal.returns
returns g c =
    map-set rectangle_at c.clear_points.new.row c.args.place c.one.result
    ∙ (rw (c.clear_points.ensures, c.one.ensures) (unit_written (one_rectangle g.E.Enclosure.SCALE) nought_rectangle (length c.args.row.now) c.args.place c.requires))
