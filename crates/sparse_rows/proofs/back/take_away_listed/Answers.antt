use Rattle.std.proofs.Common.{◌≤◌, ◌<◌, ◌+◌, ◌-◌, length, get_or, refl, sym, arith}
use Rattle.complex_interval.specs.Rect.{rectangle_of}
use Rattle.plain_elimination.specs.Matrix.{nought_rectangle}
use Rattle.plain_elimination.specs.Rectangles.{rectangles}
use Rattle.plain_elimination.proofs.Rests.{taken_more, taken_no_product, taken_no_difference}
use Rattle.sparse_rows.proofs.Taking.{skip_terms}
use Rattle.sparse_rows.proofs.Zeros.{zero_laws}
use Rattle.sparse_rows.proofs.back.take_away_listed.Goals as goal

pub loop-i-init : goal.loop-i-init
loop-i-init g c =
    let rectangle = rectangle_of g.E.Enclosure.ends in
    let B = rectangles g.E.Enclosure.SCALE in
    let laws = zero_laws g.E.Enclosure.SCALE g.E.Enclosure.ends g.met.E.Enclosure.are_ends in
    let listed = c.requires.listed in
    let start : c.args.start ≤ length c.args.row.now = omega (arith, listed.inside) in
    let first : c.args.start < length c.args.row.now → 1 ≤ get_or c.args.gaps.now c.args.start 0 = λ l. listed.first (omega arith) in
    let taken = skip_terms B rectangle nought_rectangle laws (rectangle c.args.b) c.args.row.now c.args.xs.now c.args.b c.args.start 0 c.args.start (omega arith) start (omega arith) (λ j l m. listed.before j m) refl in
    (start, first, taken)

pub returns-in_err-part : goal.returns-in_err-part
returns-in_err-part g c =
    let rectangle = rectangle_of g.E.Enclosure.ends in
    let none = taken_no_product (rectangles g.E.Enclosure.SCALE) rectangle (rectangle c.args.b) (rectangle c.loop-i.rest) c.args.row.now c.args.xs.now c.loop-i.i c.index-row-i.result c.index-xs-i.result (omega arith) (omega arith) c.index-row-i.is c.index-xs-i.is c.in_err-part.ensures.value c.loop-i.invariant.2 in
    rw c.from_residual.ensures (sym none)

pub returns-in_err-rest : goal.returns-in_err-rest
returns-in_err-rest g c =
    let rectangle = rectangle_of g.E.Enclosure.ends in
    let none = taken_no_difference (rectangles g.E.Enclosure.SCALE) rectangle (rectangle c.args.b) (rectangle c.loop-i.rest) (rectangle c.in_ok-part.part) c.args.row.now c.args.xs.now c.loop-i.i c.index-row-i.result c.index-xs-i.result (omega arith) (omega arith) c.index-row-i.is c.index-xs-i.is c.in_ok-part.ensures.value c.in_err-rest.ensures.value c.loop-i.invariant.2 in
    rw c.from_residual-in_err-rest.ensures (sym none)

pub loop-i-preserved : goal.loop-i-preserved
loop-i-preserved g c =
    let rectangle = rectangle_of g.E.Enclosure.ends in
    let B = rectangles g.E.Enclosure.SCALE in
    let laws = zero_laws g.E.Enclosure.SCALE g.E.Enclosure.ends g.met.E.Enclosure.are_ends in
    let row = c.args.row.now in
    let xs = c.args.xs.now in
    let i = c.loop-i.i in
    let gap = get_or c.args.gaps.now i 0 in
    let listed = c.requires.listed in
    let inside : i < length c.args.gaps.now = omega arith in
    let live : 1 ≤ gap = c.loop-i.invariant.1 (omega arith) in
    let within : i + gap ≤ length c.args.gaps.now = listed.within i inside in
    let onward : i + gap ≤ length row = omega arith in
    let next : i + gap < length row → 1 ≤ get_or c.args.gaps.now (i + gap) 0 = λ l. listed.next i inside live (omega arith) in
    let one = taken_more B rectangle (rectangle c.args.b) (rectangle c.loop-i.rest) (rectangle c.in_ok-part.part) (rectangle c.in_ok-rest.rest) row xs i c.index-row-i.result c.index-xs-i.result (omega arith) (omega arith) c.index-row-i.is c.index-xs-i.is c.in_ok-part.ensures.value c.in_ok-rest.ensures.value c.loop-i.invariant.2 in
    let taken = skip_terms B rectangle nought_rectangle laws (rectangle c.args.b) row xs c.in_ok-rest.rest (gap - 1) (i + 1) (i + gap) (omega arith) onward (omega arith) (λ j l m. listed.between i j inside (omega arith) m) one in
    (onward, next, taken)
