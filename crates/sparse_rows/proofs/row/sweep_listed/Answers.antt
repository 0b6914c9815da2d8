use Rattle.std.proofs.Common.{sym, refl, set, ◌-◌, arith, ◌≤◌, ◌<◌, ◌+◌, ◌≡◌, length, get_or}
use Rattle.std.proofs.lemmas.List.{length-set}
use Rattle.complex_interval.specs.Rect.{rectangle_of}
use Rattle.plain_elimination.specs.Rectangles.{rectangles}
use Rattle.plain_elimination.specs.Matrix.{nought_rectangle}
use Rattle.plain_elimination.proofs.Sweeps.{sweep_more, sweep_no_product, sweep_no_difference}
use Rattle.sparse_rows.proofs.Skipping.{skip, swept_none, agree_more}
use Rattle.sparse_rows.proofs.Zeros.{zero_laws}
use Rattle.sparse_rows.proofs.row.sweep_listed.Goals as goal

pub loop-i-init : goal.loop-i-init
loop-i-init g c =
    let rectangle = rectangle_of g.E.Enclosure.ends in
    let B = rectangles g.E.Enclosure.SCALE in
    let listed = c.requires.listed in
    let start : c.args.start ≤ length c.args.row.now = omega (arith, listed.inside) in
    let swept = skip B rectangle nought_rectangle (zero_laws g.E.Enclosure.SCALE g.E.Enclosure.ends g.met.E.Enclosure.are_ends) (rectangle c.args.f) c.args.first.now c.args.row.now c.args.row.now c.args.start 0 c.args.start (omega arith) (omega arith) start (λ j l m. listed.before j m) (swept_none B rectangle (rectangle c.args.f) c.args.first.now c.args.row.now) in
    let first : c.args.start < length c.args.row.now → 1 ≤ get_or c.args.gaps.now c.args.start 0 = λ l. listed.first (omega arith) in
    (start, first, swept, λ i e. refl)

pub returns-in_err-part-clause-stated : goal.returns-in_err-part-clause-stated
returns-in_err-part-clause-stated g c =
    let rectangle = rectangle_of g.E.Enclosure.ends in
    let none = sweep_no_product (rectangles g.E.Enclosure.SCALE) rectangle (rectangle c.args.f) c.args.first.now c.args.row.now c.loop-i.row c.loop-i.i c.index-first-i.result (omega arith) (omega arith) c.index-first-i.is c.in_err-part.ensures.value c.loop-i.invariant.2 in
    rw c.from_residual.ensures (sym none)

pub returns-in_err-now-clause-stated : goal.returns-in_err-now-clause-stated
returns-in_err-now-clause-stated g c =
    let rectangle = rectangle_of g.E.Enclosure.ends in
    let none = sweep_no_difference (rectangles g.E.Enclosure.SCALE) rectangle (rectangle c.args.f) (rectangle c.in_ok-part.part) c.args.first.now c.args.row.now c.loop-i.row c.loop-i.i c.index-first-i.result c.cell.result (omega arith) (omega arith) c.index-first-i.is c.cell.ensures c.in_ok-part.ensures.value c.in_err-now.ensures.value c.loop-i.invariant.2 in
    rw c.from_residual-in_err-now.ensures (sym none)

pub loop-i-preserved : goal.loop-i-preserved
loop-i-preserved g c =
    let rectangle = rectangle_of g.E.Enclosure.ends in
    let B = rectangles g.E.Enclosure.SCALE in
    let laws = zero_laws g.E.Enclosure.SCALE g.E.Enclosure.ends g.met.E.Enclosure.are_ends in
    let f = rectangle c.args.f in
    let i = c.loop-i.i in
    let listed = c.requires.listed in
    let first = c.args.first.now in
    let row = c.loop-i.row in
    let new = set row i c.in_ok-now.now in
    let size : length new ≡ length row = length-set row i c.in_ok-now.now in
    let inside : i < length c.args.gaps.now = omega arith in
    let forward : 1 ≤ get_or c.args.gaps.now i 0 = c.loop-i.invariant.1 (omega arith) in
    let within : i + get_or c.args.gaps.now i 0 ≤ length c.args.gaps.now = listed.within i inside in
    let one = sweep_more B rectangle f (rectangle c.in_ok-part.part) first c.args.row.now row i c.index-first-i.result c.cell.result c.in_ok-now.now (omega arith) (omega arith) c.index-first-i.is c.cell.ensures c.in_ok-part.ensures.value c.in_ok-now.ensures.value c.loop-i.invariant.2 in
    let swept = skip B rectangle nought_rectangle laws f first c.args.row.now new (get_or c.args.gaps.now i 0 - 1) (i + 1) (i + get_or c.args.gaps.now i 0) (omega arith) (omega arith) (omega arith) (λ j l m. listed.between i j inside (omega arith) m) one in
    let agree = agree_more B rectangle nought_rectangle laws f (rectangle c.in_ok-part.part) first row _ i c.index-first-i.result c.cell.result c.in_ok-now.now (omega arith) (omega arith) c.index-first-i.is c.cell.ensures c.in_ok-part.ensures.value c.in_ok-now.ensures.value c.loop-i.invariant.3 in
    let onward : i + get_or c.args.gaps.now i 0 ≤ length new = omega arith in
    let next : i + get_or c.args.gaps.now i 0 < length new → 1 ≤ get_or c.args.gaps.now (i + get_or c.args.gaps.now i 0) 0 = λ l. listed.next i inside forward (omega arith) in
    rw c.set_cell.ensures (onward, next, swept, agree)
