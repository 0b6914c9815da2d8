use Rattle.std.proofs.Common.{◌≡◌, ◌<◌, ◌≤◌, ◌+◌, ◌*◌, ◌-◌, length, get_or, map, set, sym, ap, ◌∙◌, arith}
use Rattle.std.proofs.lemmas.List.{get_or-map, length-set}
use Rattle.exact_algebra.proofs.Differences.{products}
use Rattle.complex_interval.specs.Rect.{rectangle_of}
use Rattle.plain_elimination.specs.Matrix.{nought_rectangle}
use Rattle.plain_elimination.specs.Rectangles.{rectangles}
use Rattle.plain_elimination.proofs.Layouts.{row_fits}
use Rattle.sparse_rows.specs.Sides.{column_of}
use Rattle.sparse_rows.proofs.SideSteps.{column_size, column_at, sided_none, sided_more, sided_err, sided_all, skip_sides}
use Rattle.sparse_rows.proofs.Zeros.{zero_laws}
use Rattle.sparse_rows.proofs.sides.eliminate_sides.Goals as goal

pub cell-entry-requires : goal.cell-entry-requires
cell-entry-requires g c =
    let n = length c.args.right.now in
    omega (arith, products, row_fits c.loop-r.r n (c.args.column + 1 + n) (omega arith), c.requires.rows)

pub loop-r-init : goal.loop-r-init
loop-r-init g c =
    let rectangle = rectangle_of g.E.Enclosure.ends in
    let laws = zero_laws g.E.Enclosure.SCALE g.E.Enclosure.ends g.met.E.Enclosure.are_ends in
    let B = rectangles g.E.Enclosure.SCALE in
    let right = c.args.right.now in
    let n = length right in
    let w = c.args.column + 1 + n in
    let later = map rectangle c.args.later.now in
    let entries = column_of nought_rectangle n w c.args.column later in
    let listed = c.requires.rows_listed in
    let size : length entries ≡ n = column_size nought_rectangle n w c.args.column later in
    let start : c.args.start ≤ n = omega (arith, listed.inside) in
    let live : c.args.start < n → 1 ≤ get_or c.args.gaps.now c.args.start 0 = λ l. listed.first (omega arith) in
    let sides = skip_sides B rectangle nought_rectangle laws (rectangle c.args.pivot) (rectangle c.args.first_right) entries right right c.args.start 0 c.args.start (omega arith) (omega arith) start
    (λ q u v. column_at nought_rectangle n w c.args.column q later (omega arith) ∙ listed.before q v) (sided_none B rectangle (rectangle c.args.pivot) (rectangle c.args.first_right) entries right) in
    (start, live, sides)

pub returns-in_err-side : goal.returns-in_err-side
returns-in_err-side g c =
    let rectangle = rectangle_of g.E.Enclosure.ends in
    let n = length c.args.right.now in
    let w = c.args.column + 1 + n in
    let r = c.loop-r.r in
    let later = c.args.later.now in
    let entries = column_of nought_rectangle n w c.args.column (map rectangle later) in
    let x = c.cell-entry.result in
    let lr : r < n = omega arith in
    let fits = row_fits r n w lr in
    let here : r * w + c.args.column < length later = omega (arith, c.requires.rows) in
    let count : length entries ≡ n = column_size nought_rectangle n w c.args.column (map rectangle later) in
    let entry : get_or entries r nought_rectangle ≡ rectangle x = column_at nought_rectangle n w c.args.column r (map rectangle later) lr ∙ get_or-map rectangle later (r * w + c.args.column) x nought_rectangle here ∙ ap rectangle (sym c.cell-entry.ensures) in
    let none = sided_err (rectangles g.E.Enclosure.SCALE) rectangle nought_rectangle (rectangle c.args.pivot) (rectangle c.args.first_right) (rectangle x) entries c.args.right.now c.loop-r.right r c.cell.result (omega arith) (omega arith) entry c.cell.ensures c.in_err-side.ensures c.loop-r.invariant.2 in
    rw c.from_residual.ensures (sym none)

pub loop-r-preserved : goal.loop-r-preserved
loop-r-preserved g c =
    let rectangle = rectangle_of g.E.Enclosure.ends in
    let laws = zero_laws g.E.Enclosure.SCALE g.E.Enclosure.ends g.met.E.Enclosure.are_ends in
    let B = rectangles g.E.Enclosure.SCALE in
    let n = length c.args.right.now in
    let w = c.args.column + 1 + n in
    let r = c.loop-r.r in
    let gap = get_or c.args.gaps.now r 0 in
    let listed = c.requires.rows_listed in
    let later = c.args.later.now in
    let entries = column_of nought_rectangle n w c.args.column (map rectangle later) in
    let x = c.cell-entry.result in
    let right = c.loop-r.right in
    let new = set right r c.in_ok-side.side in
    let long : length new ≡ length right = length-set right r c.in_ok-side.side in
    let lr : r < n = omega arith in
    let fits = row_fits r n w lr in
    let here : r * w + c.args.column < length later = omega (arith, c.requires.rows) in
    let count : length entries ≡ n = column_size nought_rectangle n w c.args.column (map rectangle later) in
    let entry : get_or entries r nought_rectangle ≡ rectangle x = column_at nought_rectangle n w c.args.column r (map rectangle later) lr ∙ get_or-map rectangle later (r * w + c.args.column) x nought_rectangle here ∙ ap rectangle (sym c.cell-entry.ensures) in
    let inside : r < length c.args.gaps.now = omega arith in
    let live : 1 ≤ gap = c.loop-r.invariant.1 (omega arith) in
    let within : r + gap ≤ length c.args.gaps.now = listed.within r inside in
    let onward : r + gap ≤ length new = omega arith in
    let next : r + gap < length new → 1 ≤ get_or c.args.gaps.now (r + gap) 0 = λ l. listed.next r inside live (omega arith) in
    let one = sided_more B rectangle nought_rectangle (rectangle c.args.pivot) (rectangle c.args.first_right) (rectangle x) entries c.args.right.now right r c.cell.result c.in_ok-side.side (omega arith) (omega arith) entry c.cell.ensures c.in_ok-side.ensures c.loop-r.invariant.2 in
    let sides = skip_sides B rectangle nought_rectangle laws (rectangle c.args.pivot) (rectangle c.args.first_right) entries c.args.right.now new (gap - 1) (r + 1) (r + gap) (omega arith) (omega arith) onward
    (λ q u v. column_at nought_rectangle n w c.args.column q (map rectangle later) (omega arith) ∙ listed.between r q inside (omega arith) v) one in
    rw c.set_cell.ensures (onward, next, sides)

pub returns : goal.returns
returns g c =
    let rectangle = rectangle_of g.E.Enclosure.ends in
    let n = length c.args.right.now in
    let w = c.args.column + 1 + n in
    let later = map rectangle c.args.later.now in
    let count = column_size nought_rectangle n w c.args.column later in
    sym (sided_all (rectangles g.E.Enclosure.SCALE) rectangle (rectangle c.args.pivot) (rectangle c.args.first_right) (column_of nought_rectangle n w c.args.column later) c.args.right.now c.loop-r.right c.loop-r.r (omega arith) (omega arith) c.loop-r.invariant.2)
