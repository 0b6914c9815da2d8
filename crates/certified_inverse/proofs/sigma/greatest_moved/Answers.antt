use Rattle.std.proofs.Common.{◌+◌, [], List, Some, drop, map, ap, ◌∙◌, sym, arith}
use Rattle.std.specs.Option.{option_map}
use Rattle.std.proofs.lemmas.List.{drop_all}
use Rattle.complex_interval.specs.Rectangles.{Rectangle}
use Rattle.complex_interval.specs.Rect.{rectangle_of}
use Rattle.certified_inverse.specs.Certificate.{each, size_of, sum_products, nought_rectangle}
use Rattle.certified_inverse.proofs.Placed.{element}
use Rattle.certified_inverse.proofs.Greatest.{greatest_begins, greatest_more, greatest_none, greatest_all}
use Rattle.certified_inverse.proofs.sigma.greatest_moved.Goals as goal

pub loop-i-init : goal.loop-i-init
loop-i-init g c =
    let f = λ (row : List Rectangle). sum_products g.E.Enclosure.SCALE nought_rectangle row (map (rectangle_of g.E.Enclosure.ends) c.args.left.now) in
    greatest_begins size_of (each f c.args.inverse.now.rows)

pub returns-in_err-moved : goal.returns-in_err-moved
returns-in_err-moved g c =
    let rectangle = rectangle_of g.E.Enclosure.ends in
    let s = g.E.Enclosure.SCALE in
    let rows = c.args.inverse.now.rows in
    let row = map rectangle c.row.result.now in
    let x = map rectangle c.args.left.now in
    let f = λ (row : List Rectangle). sum_products s nought_rectangle row x in
    let i = c.loop-i.i in
    let here = element rows i [] row (omega (arith, c.size-i-end.ensures.rows)) c.row.ensures.value in
    let is = c.in_err-moved.ensures ∙ ap (λ n. sum_products s n row x) c.nought_point.ensures in
    let none = greatest_none size_of (each f rows) (each f (drop i rows)) (each f (drop (i + 1) rows)) (f row) c.loop-i.sigma (ap (each f) here) (ap (option_map size_of) is) c.loop-i.invariant in
    rw c.from_residual.ensures (sym none)

pub loop-i-preserved : goal.loop-i-preserved
loop-i-preserved g c =
    let rectangle = rectangle_of g.E.Enclosure.ends in
    let s = g.E.Enclosure.SCALE in
    let rows = c.args.inverse.now.rows in
    let row = map rectangle c.row.result.now in
    let x = map rectangle c.args.left.now in
    let f = λ (row : List Rectangle). sum_products s nought_rectangle row x in
    let i = c.loop-i.i in
    let here = element rows i [] row (omega (arith, c.size-i-end.ensures.rows)) c.row.ensures.value in
    let is = c.in_ok-moved.ensures ∙ ap (λ n. sum_products s n row x) c.nought_point.ensures in
    let size = ap Some c.size_of.ensures ∙ ap (option_map size_of) is in
    rw c.max-sigma.ensures (greatest_more size_of (each f rows) (each f (drop i rows)) (each f (drop (i + 1) rows)) (f row) c.loop-i.sigma c.size_of.result (ap (each f) here) size c.loop-i.invariant)

pub returns : goal.returns
returns g c =
    let f = λ (row : List Rectangle). sum_products g.E.Enclosure.SCALE nought_rectangle row (map (rectangle_of g.E.Enclosure.ends) c.args.left.now) in
    let rows = c.args.inverse.now.rows in
    sym (greatest_all size_of (each f rows) (each f (drop c.loop-i.i rows)) c.loop-i.sigma (ap (each f) (drop_all c.loop-i.i rows (omega (arith, c.size-i-end.ensures.rows)))) c.loop-i.invariant)
