use Rattle.std.proofs.Common.{◌≡◌, ◌+◌, ◌∷◌, length, drop, map, ap, ◌∙◌, sym, arith}
use Rattle.std.proofs.lemmas.List.{length-map}
use Rattle.complex_interval.specs.Rect.{rectangle_of}
use Rattle.middle_inverse.specs.Inverse.{middle_point}
use Rattle.middle_inverse.specs.Points.{rectangle_at}
use Rattle.middle_inverse.proofs.Each.{read_twice}
use Rattle.middle_inverse.proofs.Written.{written_more, written_all}
use Rattle.middle_inverse.proofs.writing.write_middles.Goals as goal

pub loop-i-preserved : goal.loop-i-preserved
loop-i-preserved g c =
    let rectangle = rectangle_of g.E.Enclosure.ends in
    let middles = map middle_point (map rectangle c.args.from.now) in
    let here = read_twice middle_point rectangle c.args.from.now c.loop-i.i c.index-from-i.result (omega arith) c.index-from-i.is in
    written_more rectangle_at middles c.loop-i.row c.loop-i.i c.middle_point.result (omega arith) (here ∙ ap (λ x. x ∷ drop (c.loop-i.i + 1) middles) (sym c.middle_point.ensures)) c.loop-i.invariant

pub returns : goal.returns
returns g c =
    let rectangle = rectangle_of g.E.Enclosure.ends in
    let middles = map middle_point (map rectangle c.args.from.now) in
    let all : length middles ≡ length c.args.from.now = length-map (map rectangle c.args.from.now) middle_point ∙ length-map c.args.from.now rectangle in
    written_all rectangle_at middles c.loop-i.row c.loop-i.i (omega arith) (omega arith) c.loop-i.invariant
