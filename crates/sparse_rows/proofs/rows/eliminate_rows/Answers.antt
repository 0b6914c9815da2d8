use Rattle.std.proofs.Common.{◌≡◌, ◌<◌, ◌≤◌, ◌+◌, ◌*◌, ◌-◌, ℕ, length, get_or, map, sym, refl, ◌∙◌, arith}
use Rattle.exact_algebra.proofs.Differences.{products}
use Rattle.complex_interval.specs.Rect.{rectangle_of}
use Rattle.plain_elimination.specs.Matrix.{nought_rectangle}
use Rattle.plain_elimination.specs.Rectangles.{rectangles}
use Rattle.plain_elimination.proofs.Layouts.{rows_more, rows_none, row_fits}
use Rattle.sparse_rows.proofs.Heads.{head_stays}
use Rattle.sparse_rows.proofs.SideSteps.{column_same}
use Rattle.sparse_rows.proofs.SkippedRows.{skip_rows, eliminated_none, eliminated_all}
use Rattle.sparse_rows.proofs.Zeros.{zero_laws}
use Rattle.sparse_rows.proofs.rows.eliminate_rows.Goals as goal

pub eliminate_at-requires-clause-fits : goal.eliminate_at-requires-clause-fits
eliminate_at-requires-clause-fits g c =
    let n = length c.args.first.now in
    omega (arith, products, row_fits c.loop-i.i n (c.args.column + 1 + n) c.loop-i-test.true, c.requires.rows)

pub loop-i-init : goal.loop-i-init
loop-i-init g c =
    let rectangle = rectangle_of g.E.Enclosure.ends in
    let B = rectangles g.E.Enclosure.SCALE in
    let laws = zero_laws g.E.Enclosure.SCALE g.E.Enclosure.ends g.met.E.Enclosure.are_ends in
    let first = c.args.first.now in
    let later = c.args.later.now in
    let listed = c.requires.rows_listed in
    let w = c.args.column + 1 + length first in
    let start : c.args.start ≤ length first = omega (arith, listed.inside) in
    let rows = skip_rows B rectangle nought_rectangle laws (rectangle c.args.pivot) first later later (length first) w c.args.column c.args.start 0 c.args.start (omega arith) start refl c.requires.rows (λ r p q. listed.before r q) (eliminated_none B rectangle (rectangle c.args.pivot) first later (length first) w c.args.column) in
    let live : c.args.start < length first → 1 ≤ get_or c.args.gaps.now c.args.start 0 = λ l. listed.first (omega arith) in
    (start, live, rows, λ r l. refl, λ all zeros closed. zeros)

pub returns-in_err-eliminate_at-clause-stated : goal.returns-in_err-eliminate_at-clause-stated
returns-in_err-eliminate_at-clause-stated g c =
    let rectangle = rectangle_of g.E.Enclosure.ends in
    let first = c.args.first.now in
    let none = rows_none (rectangles g.E.Enclosure.SCALE) rectangle (rectangle c.args.pivot) first c.args.later.now c.loop-i.later (length first) (c.args.column + 1 + length first) c.args.column c.loop-i.i c.loop-i-test.true (omega arith) c.in_err-eliminate_at.ensures.row c.loop-i.invariant.2 in
    rw c.from_residual.ensures (sym none)

pub returns-in_err-eliminate_at-clause-zeros : goal.returns-in_err-eliminate_at-clause-zeros
returns-in_err-eliminate_at-clause-zeros g c =
    λ all zeros closed. c.eliminate_at.ensures.zeros all (c.loop-i.invariant.4 all zeros closed) (λ j l out. closed c.loop-i.i j c.loop-i-test.true l out)

pub returns-in_err-eliminate_at-clause-entries : goal.returns-in_err-eliminate_at-clause-entries
returns-in_err-eliminate_at-clause-entries g c =
    let rectangle = rectangle_of g.E.Enclosure.ends in
    let n = length c.args.first.now in
    let w = c.args.column + 1 + n in
    let step = c.eliminate_at.ensures in
    column_same nought_rectangle n w c.args.column (map rectangle c.eliminate_at.new.cells) (map rectangle c.args.later.now)
    (λ r l. head_stays rectangle c.loop-i.later c.eliminate_at.new.cells n w c.args.column c.loop-i.i r refl l step.before step.after ∙ c.loop-i.invariant.3 r l)

pub returns-clause-entries : goal.returns-clause-entries
returns-clause-entries g c =
    let rectangle = rectangle_of g.E.Enclosure.ends in
    let n = length c.args.first.now in
    column_same nought_rectangle n (c.args.column + 1 + n) c.args.column (map rectangle c.loop-i.later) (map rectangle c.args.later.now) c.loop-i.invariant.3

pub loop-i-preserved : goal.loop-i-preserved
loop-i-preserved g c =
    let rectangle = rectangle_of g.E.Enclosure.ends in
    let B = rectangles g.E.Enclosure.SCALE in
    let laws = zero_laws g.E.Enclosure.SCALE g.E.Enclosure.ends g.met.E.Enclosure.are_ends in
    let first = c.args.first.now in
    let n = length first in
    let w = c.args.column + 1 + n in
    let k = c.args.column in
    let i = c.loop-i.i in
    let gap = get_or c.args.gaps.now i 0 in
    let listed = c.requires.rows_listed in
    let step = c.in_ok-eliminate_at.ensures in
    let new = c.eliminate_at.new.cells in
    let inside : i < length c.args.gaps.now = omega arith in
    let live : 1 ≤ gap = c.loop-i.invariant.1 c.loop-i-test.true in
    let within : i + gap ≤ length c.args.gaps.now = listed.within i inside in
    let onward : i + gap ≤ n = omega arith in
    let next : i + gap < n → 1 ≤ get_or c.args.gaps.now (i + gap) 0 = λ l. listed.next i inside live (omega arith) in
    let heads : (r : ℕ) → r < n → get_or (map rectangle new) (r * w + k) nought_rectangle ≡ get_or (map rectangle c.args.later.now) (r * w + k) nought_rectangle =
    λ r l. head_stays rectangle c.loop-i.later new n w k i r refl l step.before step.after ∙ c.loop-i.invariant.3 r l in
    let size : length new ≡ n * w = omega (arith, c.requires.rows) in
    let one = rows_more B rectangle (rectangle c.args.pivot) first c.args.later.now c.loop-i.later new n w k i c.loop-i-test.true (omega arith) step.row step.before step.after c.loop-i.invariant.2 in
    let rows = skip_rows B rectangle nought_rectangle laws (rectangle c.args.pivot) first c.args.later.now new n w k (gap - 1) (i + 1) (i + gap) (omega arith) onward refl size (λ r p q. heads r (omega arith) ∙ listed.between i r inside (omega arith) q) one in
    (onward, next, rows, heads, λ all zeros closed. step.zeros all (c.loop-i.invariant.4 all zeros closed) (λ j l out. closed i j c.loop-i-test.true l out))

pub returns-clause-stated : goal.returns-clause-stated
returns-clause-stated g c =
    let rectangle = rectangle_of g.E.Enclosure.ends in
    let first = c.args.first.now in
    sym (eliminated_all (rectangles g.E.Enclosure.SCALE) rectangle (rectangle c.args.pivot) first c.args.later.now c.loop-i.later (length first) (c.args.column + 1 + length first) c.args.column c.loop-i.i (omega arith) c.loop-i.invariant.2)
