use Rattle.std.proofs.lemmas.List.{map-set}
use Rattle.complex_interval.specs.Rect.{rectangle_of}
use Rattle.plain_elimination.proofs.column.Column.set.Goals as goal

pub returns : goal.returns
returns g c = rw (← c.self.view_is) (map-set (rectangle_of g.E.Enclosure.ends) c.self.inside.cells.items c.args.row c.args.value)
