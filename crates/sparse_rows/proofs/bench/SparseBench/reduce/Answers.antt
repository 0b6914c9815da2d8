use Rattle.std.proofs.Common.{ap, ◌∙◌, map, arith}
use Rattle.std.proofs.lemmas.List.{length-map}
use Rattle.complex_interval.specs.Rect.{rectangle_of}
use Rattle.plain_elimination.specs.Elimination.{reduce}
use Rattle.plain_elimination.specs.Rectangles.{rectangles}
use Rattle.plain_elimination.proofs.Answers.{complements_held}
use Rattle.sparse_rows.proofs.Sources.{same_size, rows_same, zero_source}
use Rattle.sparse_rows.proofs.bench.SparseBench.reduce.Goals as goal

pub reduce_from-requires-clause-outside : goal.reduce_from-requires-clause-outside
reduce_from-requires-clause-outside g c =
    let rectangle = rectangle_of g.E.Enclosure.ends in
    rw c.as_slice.ensures.value
    (zero_source c.self.inside.size c.self.inside.places.items c.args.self.now c.args.matrix.now c.self.view_is c.requires.size _ _ _ (map rectangle c.cells.result.now) c.self.invariant c.requires.outside c.cells.ensures.rows (length-map c.cells.result.now rectangle ∙ c.cells.ensures.square))

pub returns-clause-held : goal.returns-clause-held
returns-clause-held g c =
    let rectangle = rectangle_of g.E.Enclosure.ends in
    let size = same_size c.self.inside.size c.self.inside.places.items c.args.self.now c.args.matrix.now c.self.view_is c.requires.size in
    let rows = rows_same c.self.inside.size c.self.inside.places.items c.args.self.now c.args.matrix.now c.self.view_is c.requires.size (map rectangle c.cells.result.now) c.cells.ensures.rows in
    complements_held g.E.Enclosure.SCALE rectangle c.args.matrix.now c.reduce_from.result (omega (arith, c.self.invariant.some)) (c.reduce_from.ensures.stated ∙ ap (reduce (rectangles g.E.Enclosure.SCALE)) rows)
