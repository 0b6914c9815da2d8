use Rattle.std.proofs.Common.{◌≡◌, ◌+◌, [], length, drop, map, ap, ap₂, ◌∙◌, sym, arith}
use Rattle.std.specs.Option.{option_map}
use Rattle.std.proofs.lemmas.List.{drop_all}
use Rattle.complex_interval.specs.Rect.{rectangle_of}
use Rattle.certified_inverse.specs.Certificate.{and_then, each_two, row_left, row_size, unit_rectangles, unit_row, one_rectangle, nought_rectangle, in_size}
use Rattle.certified_inverse.proofs.Placed.{element}
use Rattle.certified_inverse.proofs.Greatest.{greatest_begins, greatest_more, greatest_none, greatest_all, unit_rows_left, length-unit_rectangles}
use Rattle.certified_inverse.proofs.theta.theta_of.Goals as goal

pub loop-i-init : goal.loop-i-init
loop-i-init g c =
    let s = g.E.Enclosure.SCALE in
    let ys = c.args.matrix.now.rows in
    greatest_begins row_size (each_two (row_left s ys) (unit_rectangles s (length ys)) c.args.inverse.now.rows)

pub returns-in_err-total : goal.returns-in_err-total
returns-in_err-total g c =
    let rectangle = rectangle_of g.E.Enclosure.ends in
    let s = g.E.Enclosure.SCALE in
    let ys = c.args.matrix.now.rows in
    let cs = c.args.inverse.now.rows in
    let row = map rectangle c.row.result.now in
    let f = row_left s ys in
    let i = c.loop-i.i in
    let n = length ys in
    let units = unit_rectangles s n in
    let count : n ≡ c.args.matrix.now.size = c.size-i-end.ensures.rows in
    let unit = unit_rows_left s n i (omega arith) in
    let here = element cs i [] row (omega arith) c.row.ensures.value in
    let o = f (unit_row (one_rectangle s) nought_rectangle n i) row in
    let is = c.in_err-total.ensures ∙ ap (λ m. option_map row_size (f (unit_row (one_rectangle s) nought_rectangle m i) row)) (sym count) in
    let none = greatest_none row_size (each_two f units cs) (each_two f (drop i units) (drop i cs)) (each_two f (drop (i + 1) units) (drop (i + 1) cs)) o c.loop-i.theta (ap₂ (each_two f) unit here) is c.loop-i.invariant in
    rw c.from_residual.ensures (sym (ap (λ o. and_then o in_size) none))

pub loop-i-preserved : goal.loop-i-preserved
loop-i-preserved g c =
    let rectangle = rectangle_of g.E.Enclosure.ends in
    let s = g.E.Enclosure.SCALE in
    let ys = c.args.matrix.now.rows in
    let cs = c.args.inverse.now.rows in
    let row = map rectangle c.row.result.now in
    let f = row_left s ys in
    let i = c.loop-i.i in
    let n = length ys in
    let units = unit_rectangles s n in
    let count : n ≡ c.args.matrix.now.size = c.size-i-end.ensures.rows in
    let unit = unit_rows_left s n i (omega arith) in
    let here = element cs i [] row (omega arith) c.row.ensures.value in
    let o = f (unit_row (one_rectangle s) nought_rectangle n i) row in
    let is = c.in_ok-total.ensures ∙ ap (λ m. option_map row_size (f (unit_row (one_rectangle s) nought_rectangle m i) row)) (sym count) in
    rw c.max-theta.ensures (greatest_more row_size (each_two f units cs) (each_two f (drop i units) (drop i cs)) (each_two f (drop (i + 1) units) (drop (i + 1) cs)) o c.loop-i.theta c.in_ok-total.total (ap₂ (each_two f) unit here) is c.loop-i.invariant)

pub returns : goal.returns
returns g c =
    let s = g.E.Enclosure.SCALE in
    let ys = c.args.matrix.now.rows in
    let cs = c.args.inverse.now.rows in
    let f = row_left s ys in
    let i = c.loop-i.i in
    let n = length ys in
    let units = unit_rectangles s n in
    let count : n ≡ c.args.matrix.now.size = c.size-i-end.ensures.rows in
    let no_units = drop_all i units (omega (arith, length-unit_rectangles s n)) in
    let no_rows = drop_all i cs (omega arith) in
    c.in_size.ensures ∙ sym (ap (λ o. and_then o in_size) (greatest_all row_size (each_two f units cs) (each_two f (drop i units) (drop i cs)) c.loop-i.theta (ap₂ (each_two f) no_units no_rows) c.loop-i.invariant))
