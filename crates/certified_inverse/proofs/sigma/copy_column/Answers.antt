use Rattle.std.proofs.Common.{◌≡◌, ◌<◌, [], Some, length, map, slice_get, ap, ◌∙◌, sym, arith}
use Rattle.std.proofs.lemmas.Option.{slice_get-get_or}
use Rattle.std.proofs.lemmas.List.{length-map, get_or-map}
use Rattle.complex_interval.specs.Rect.{rectangle_of}
use Rattle.certified_inverse.proofs.Placed.{element, placed_begins, placed_more, placed_all}
use Rattle.certified_inverse.proofs.sigma.copy_column.Goals as goal

pub loop-i-init : goal.loop-i-init
loop-i-init g c = placed_begins (rectangle_of g.E.Enclosure.ends) (λ row. slice_get row c.args.column) c.args.inverse.now.rows c.args.x.now

pub loop-i-preserved : goal.loop-i-preserved
loop-i-preserved g c =
    let rectangle = rectangle_of g.E.Enclosure.ends in
    let rows = c.args.inverse.now.rows in
    let k = c.args.column in
    let cells = c.row.result.now in
    let x = c.index-row-column.result in
    let inside : k < length cells = omega (arith, c.row.ensures.width) in
    let here = element rows c.loop-i.i [] (map rectangle cells) (omega (arith, c.size-i-end.ensures.rows)) c.row.ensures.value in
    let is : Some (rectangle x) ≡ slice_get (map rectangle cells) k =
    sym (slice_get-get_or (map rectangle cells) k (rectangle x) (rw (length-map cells rectangle) inside) ∙ ap Some (get_or-map rectangle cells k x (rectangle x) inside ∙ ap rectangle (sym c.index-row-column.is))) in
    placed_more rectangle (λ row. slice_get row k) rows c.loop-i.x c.loop-i.i (map rectangle cells) x (omega arith) here is c.loop-i.invariant

pub returns : goal.returns
returns g c =
    let rows = c.args.inverse.now.rows in
    placed_all (rectangle_of g.E.Enclosure.ends) (λ row. slice_get row c.args.column) rows c.loop-i.x c.loop-i.i (omega arith) (omega (arith, c.size-i-end.ensures.rows)) c.loop-i.invariant
