use Rattle.std.proofs.Common.{◌≡◌, ◌+◌, ◌-◌, ◌<◌, length, map, sym, ap, ◌∙◌, subst, arith}
use Rattle.std.proofs.lemmas.List.{length-map, get_or-map}
use Rattle.plain_elimination.specs.Matrix.{nought_rectangle}
use Rattle.sparse_rows.specs.Listed.{ZeroAt}
use Rattle.middle_inverse.specs.Leads.{Leads}
use Rattle.middle_inverse.specs.Points.{rectangle_at}
use Rattle.middle_inverse.proofs.Skips.{nought_is, leads_none, leads_on, leads_here}
use Rattle.middle_inverse.proofs.next.write_next.Goals as goal

pub loop-i-init : goal.loop-i-init
loop-i-init c = record { in_range = omega arith; leads = leads_none (ZeroAt (map rectangle_at c.args.row.now)) (length c.args.row.now) c.args.next.now c.requires.size }

pub loop-i-preserved-then-is_nought : goal.loop-i-preserved-then-is_nought
loop-i-preserved-then-is_nought c =
    let inv = c.loop-i.invariant in
    let row = c.args.row.now in
    let xs = map rectangle_at row in
    let i = c.loop-i.i - 1 in
    let inside : i < length row = omega arith in
    let back : c.loop-i.i ≡ i + 1 = omega arith in
    let zero : ZeroAt xs i = get_or-map rectangle_at row i c.index-row-i.result nought_rectangle inside ∙ ap rectangle_at (sym c.index-row-i.is) ∙ nought_is c.index-row-i.result (sym c.is_nought.ensures ∙ c.if-is_nought.true) in
    let leads = leads_on (ZeroAt xs) (length row) i c.loop-i.next inside zero (subst (λ k. Leads (ZeroAt xs) (length row) k c.loop-i.next) back inv.leads) in
    record { in_range = omega arith; leads = leads }

pub loop-i-preserved : goal.loop-i-preserved
loop-i-preserved c =
    let inv = c.loop-i.invariant in
    let row = c.args.row.now in
    let xs = map rectangle_at row in
    let i = c.loop-i.i - 1 in
    let back : c.loop-i.i ≡ i + 1 = omega arith in
    let leads = leads_here (ZeroAt xs) (length row) i c.loop-i.next (omega arith) (subst (λ k. Leads (ZeroAt xs) (length row) k c.loop-i.next) back inv.leads) in
    record { in_range = omega arith; leads = leads }

pub returns : goal.returns
returns c =
    let inv = c.loop-i.invariant in
    let row = c.args.row.now in
    let xs = map rectangle_at row in
    let none : c.loop-i.i ≡ 0 = omega arith in
    subst (λ n. Leads (ZeroAt xs) n 0 c.loop-i.next) (sym (length-map row rectangle_at)) (subst (λ k. Leads (ZeroAt xs) (length row) k c.loop-i.next) none inv.leads)
