use Rattle.std.proofs.Common.{◌≡◌, map, ap, ◌∙◌, sym, arith}
use Rattle.std.proofs.lemmas.List.{get_or-map}
use Rattle.complex_interval.specs.Rect.{rectangle_of}
use Rattle.plain_elimination.specs.Matrix.{Square}
use Rattle.middle_inverse.proofs.bench.MiddleInverse.row.Goals as goal

pub returns-clause-value : goal.returns-clause-value
returns-clause-value g c =
    let rectangle = rectangle_of g.E.Enclosure.ends in
    let inside = c.self.inside in
    let size : inside.size ≡ c.args.self.now.size = ap (λ (m : Square). m.size) c.self.view_is in
    rw (← c.self.view_is)
    (ap (map rectangle) c.as_slice.ensures.value
    ∙ ap (λ r. map rectangle r.items) c.index.ensures
    ∙ sym (get_or-map (λ r. map rectangle r.items) inside.rows.items c.args.row c.index.result.now _ (omega (arith, c.self.invariant.rows_in))))
