use Rattle.std.proofs.Common.{◌+◌, ◌∷◌, drop, map, ap, ◌∙◌, sym, arith}
use Rattle.std.proofs.lemmas.List.{length-map}
use Rattle.complex_interval.specs.Rect.{rectangle_of}
use Rattle.middle_inverse.specs.Points.{rectangle_at}
use Rattle.middle_inverse.proofs.Each.{read}
use Rattle.middle_inverse.proofs.Written.{written_more, written_all}
use Rattle.middle_inverse.proofs.writing.copy_row.Goals as goal

pub loop-i-preserved : goal.loop-i-preserved
loop-i-preserved g c =
    let points = map rectangle_at c.args.from.now in
    let here = read rectangle_at c.args.from.now c.loop-i.i c.index-from-i.result (omega arith) c.index-from-i.is in
    written_more (rectangle_of g.E.Enclosure.ends) points c.loop-i.row c.loop-i.i c.rect_at.result (omega arith) (here ∙ ap (λ x. x ∷ drop (c.loop-i.i + 1) points) (sym c.rect_at.ensures)) c.loop-i.invariant

pub returns : goal.returns
returns g c =
    written_all (rectangle_of g.E.Enclosure.ends) (map rectangle_at c.args.from.now) c.loop-i.row c.loop-i.i (omega arith) (omega (arith, length-map c.args.from.now rectangle_at)) c.loop-i.invariant
