use Rattle.std.proofs.Common.{◌≡◌, ◌+◌, ◌-◌, ◌≤◌, get_or, length, set, sym, arith}
use Rattle.std.proofs.lemmas.List.{length-map, length-set}
use Rattle.plain_elimination.specs.Matrix.{nought_rectangle}
use Rattle.middle_inverse.specs.Points.{rectangle_at}
use Rattle.middle_inverse.specs.Inverse.{point_less}
use Rattle.middle_inverse.proofs.Each.{each_two_begins, each_two_more, each_two_none, each_two_all}
use Rattle.middle_inverse.proofs.Skips.{less_nought, pass}
use Rattle.middle_inverse.proofs.rows.subtract_row.Goals as goal

pub bounds-next-0 : goal.bounds-next-0
bounds-next-0 g c = omega (arith, c.requires.leads.size)

pub loop-i-init : goal.loop-i-init
loop-i-init g c =
    let f = point_less g.E.Enclosure.SCALE (rectangle_at c.args.f) in
    let leads = c.requires.leads in
    let n = length-map c.args.first.now rectangle_at in
    let i = get_or c.args.next.now 0 0 in
    let within : i ≤ length c.args.row.now = let w = leads.within 0 (omega arith) (omega arith) in omega (arith, n) in
    record {
      in_range = within;
      done = pass rectangle_at rectangle_at f nought_rectangle (λ x. less_nought g.E.Enclosure.SCALE (rectangle_at c.args.f) x) c.args.row.now c.args.row.now c.args.first.now i 0 i (omega arith) within (omega arith)
          (λ j l m. leads.between 0 j (omega arith) (omega arith) (omega arith) m) (each_two_begins rectangle_at rectangle_at f c.args.row.now c.args.first.now);
    }

pub returns-in_err-row : goal.returns-in_err-row
returns-in_err-row g c =
    let none = each_two_none rectangle_at rectangle_at (point_less g.E.Enclosure.SCALE (rectangle_at c.args.f)) c.args.row.now c.loop-i.row c.args.first.now c.loop-i.i c.index-row-i.result c.index-first-i.result (omega arith) (omega arith) c.index-row-i.is c.index-first-i.is c.in_err-row.ensures c.loop-i.invariant.done in
    rw c.from_residual.ensures (sym none)

pub loop-i-preserved : goal.loop-i-preserved
loop-i-preserved g c =
    let f = point_less g.E.Enclosure.SCALE (rectangle_at c.args.f) in
    let leads = c.requires.leads in
    let first = c.args.first.now in
    let n = length-map first rectangle_at in
    let i = c.loop-i.i in
    let next = get_or c.args.next.now (i + 1) 0 in
    let new = set c.loop-i.row i c.in_ok-row.field-0 in
    let size : length new ≡ length c.loop-i.row = length-set c.loop-i.row i c.in_ok-row.field-0 in
    let onward : i + 1 ≤ next = leads.forward (i + 1) (omega arith) (omega (arith, n)) in
    let within : next ≤ length new = let w = leads.within (i + 1) (omega arith) (omega (arith, n)) in omega (arith, n) in
    let one = each_two_more rectangle_at rectangle_at f c.args.row.now c.loop-i.row first i c.index-row-i.result c.in_ok-row.field-0 c.index-first-i.result (omega arith) (omega arith) c.index-row-i.is c.index-first-i.is c.in_ok-row.ensures c.loop-i.invariant.done in
    record {
      in_range = within;
      done = pass rectangle_at rectangle_at f nought_rectangle (λ x. less_nought g.E.Enclosure.SCALE (rectangle_at c.args.f) x) c.args.row.now new first (next - (i + 1)) (i + 1) next (omega arith) within (omega arith)
          (λ j l m. leads.between (i + 1) j (omega arith) (omega (arith, n)) l m) one;
    }

pub loop-i-smaller : goal.loop-i-smaller
loop-i-smaller g c =
    let leads = c.requires.leads in
    let n = length-map c.args.first.now rectangle_at in
    let onward = leads.forward (c.loop-i.i + 1) (omega arith) (omega (arith, n)) in
    omega (arith, length-set c.loop-i.row c.loop-i.i c.in_ok-row.field-0)

pub returns : goal.returns
returns g c =
    sym (each_two_all rectangle_at rectangle_at (point_less g.E.Enclosure.SCALE (rectangle_at c.args.f)) c.args.row.now c.loop-i.row c.args.first.now c.loop-i.i (omega arith) (omega arith) c.loop-i.invariant.done)
