use Rattle.std.proofs.Common.{◌≡◌, length, map, sym, ap, ◌∙◌, arith}
use Rattle.std.proofs.lemmas.List.{length-map}
use Rattle.plain_elimination.specs.Matrix.{nought_rectangle}
use Rattle.middle_inverse.specs.Lists.{and_then, each_two}
use Rattle.middle_inverse.specs.Inverse.{point_less}
use Rattle.middle_inverse.specs.Points.{rectangle_at}
use Rattle.middle_inverse.proofs.Each.{each_two_apart}
use Rattle.middle_inverse.proofs.Skips.{nought_is, less_by_nought, all_stay}
use Rattle.middle_inverse.proofs.rows.clear_row.Goals as goal

pub returns-then-row-first : goal.returns-then-row-first
returns-then-row-first g c =
    let row = map rectangle_at c.args.row.now in
    let first = map rectangle_at c.args.first.now in
    let none = each_two_apart (point_less g.E.Enclosure.SCALE (rectangle_at c.in_ok-f.f)) row first (λ e. c.if-row-first.true (sym (length-map c.args.row.now rectangle_at) ∙ e ∙ length-map c.args.first.now rectangle_at)) in
    sym (ap (λ o. and_then o (λ f. each_two (point_less g.E.Enclosure.SCALE f) row first)) (sym c.in_ok-f.ensures) ∙ none)

pub returns-then-is_nought : goal.returns-then-is_nought
returns-then-is_nought g c =
    let s = g.E.Enclosure.SCALE in
    let row = map rectangle_at c.args.row.now in
    let first = map rectangle_at c.args.first.now in
    let zero : rectangle_at c.in_ok-f.f ≡ nought_rectangle = nought_is c.in_ok-f.f (sym c.is_nought.ensures ∙ c.if-is_nought.true) in
    let same : length c.args.row.now ≡ length first = omega (arith, length-map c.args.first.now rectangle_at) in
    let stays = all_stay rectangle_at (point_less s nought_rectangle) c.args.row.now first (less_by_nought s) same in
    sym (ap (λ o. and_then o (λ f. each_two (point_less s f) row first)) (sym c.in_ok-f.ensures) ∙ ap (λ z. each_two (point_less s z) row first) zero ∙ stays)
