use Rattle.std.proofs.Common.{◌++◌, [], ◌∷◌, map, replicate, ap, ap₂, ◌∙◌}
use Rattle.std.proofs.lemmas.List.{map-append, replicate_more}
use Rattle.complex_interval.specs.Rect.{rectangle_of}
use Rattle.plain_elimination.specs.Matrix.{nought_rectangle}
use Rattle.middle_inverse.proofs.bench.nought_rows.Goals as goal

pub loop-row-preserved : goal.loop-row-preserved
loop-row-preserved g c =
    let rectangle = rectangle_of g.E.Enclosure.ends in
    ap (map (λ r. map rectangle r.items)) c.in_ok-push.ensures.items
    ∙ map-append (λ r. map rectangle r.items) c.loop-row.rows.items (c.in_ok-cells.cells ∷ [])
    ∙ ap₂ (λ front row. front ++ row ∷ []) c.loop-row.invariant c.in_ok-cells.ensures
    ∙ replicate_more c.loop-row._row (replicate (c.args.size) nought_rectangle)
