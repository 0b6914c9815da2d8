use Rattle.std.proofs.Common.{◌≡◌, ◌+◌, ◌-◌, ◌≤◌, get_or, length, set, sym, arith}
use Rattle.std.proofs.lemmas.List.{length-map, length-set}
use Rattle.plain_elimination.specs.Matrix.{nought_rectangle}
use Rattle.complex_interval.specs.Rect.{rectangle_of}
use Rattle.certified_inverse.specs.Certificate.{add_times}
use Rattle.middle_inverse.proofs.Each.{each_two_begins, each_two_more, each_two_none, each_two_all}
use Rattle.middle_inverse.proofs.Skips.{pass}
use Rattle.certified_inverse.proofs.Zeros.{add_nought}
use Rattle.certified_inverse.proofs.sums.add_listed.Goals as goal

pub bounds-next-0 : goal.bounds-next-0
bounds-next-0 g c = omega (arith, c.requires.leads.size)

pub loop-i-init : goal.loop-i-init
loop-i-init g c =
    let rectangle = rectangle_of g.E.Enclosure.ends in
    let are = g.met.E.Enclosure.are_ends in
    let f = add_times g.E.Enclosure.SCALE (rectangle c.args.f) in
    let leads = c.requires.leads in
    let n = length-map c.args.row.now rectangle in
    let i = get_or c.args.next.now 0 0 in
    let within : i ≤ length c.args.sums.now = let w = leads.within 0 (omega arith) (omega arith) in omega (arith, n) in
    record {
      in_range = within;
      done = pass rectangle rectangle f nought_rectangle (λ x. add_nought g.E.Enclosure.SCALE (rectangle c.args.f) (rectangle x) (are x.re) (are x.im)) c.args.sums.now c.args.sums.now c.args.row.now i 0 i (omega arith) within (omega arith)
          (λ j l m. leads.between 0 j (omega arith) (omega arith) (omega arith) m) (each_two_begins rectangle rectangle f c.args.sums.now c.args.row.now);
    }

pub returns-in_err-sums : goal.returns-in_err-sums
returns-in_err-sums g c =
    let rectangle = rectangle_of g.E.Enclosure.ends in
    let none = each_two_none rectangle rectangle (add_times g.E.Enclosure.SCALE (rectangle c.args.f)) c.args.sums.now c.loop-i.sums c.args.row.now c.loop-i.i c.index-sums-i.result c.index-row-i.result (omega arith) (omega arith) c.index-sums-i.is c.index-row-i.is c.in_err-sums.ensures c.loop-i.invariant.done in
    rw c.from_residual.ensures (sym none)

pub loop-i-preserved : goal.loop-i-preserved
loop-i-preserved g c =
    let rectangle = rectangle_of g.E.Enclosure.ends in
    let are = g.met.E.Enclosure.are_ends in
    let f = add_times g.E.Enclosure.SCALE (rectangle c.args.f) in
    let leads = c.requires.leads in
    let first = c.args.row.now in
    let n = length-map first rectangle in
    let i = c.loop-i.i in
    let next = get_or c.args.next.now (i + 1) 0 in
    let new = set c.loop-i.sums i c.in_ok-sums.field-0 in
    let size : length new ≡ length c.loop-i.sums = length-set c.loop-i.sums i c.in_ok-sums.field-0 in
    let onward : i + 1 ≤ next = leads.forward (i + 1) (omega arith) (omega (arith, n)) in
    let within : next ≤ length new = let w = leads.within (i + 1) (omega arith) (omega (arith, n)) in omega (arith, n) in
    let one = each_two_more rectangle rectangle f c.args.sums.now c.loop-i.sums first i c.index-sums-i.result c.in_ok-sums.field-0 c.index-row-i.result (omega arith) (omega arith) c.index-sums-i.is c.index-row-i.is c.in_ok-sums.ensures c.loop-i.invariant.done in
    record {
      in_range = within;
      done = pass rectangle rectangle f nought_rectangle (λ x. add_nought g.E.Enclosure.SCALE (rectangle c.args.f) (rectangle x) (are x.re) (are x.im)) c.args.sums.now new first (next - (i + 1)) (i + 1) next (omega arith) within (omega arith)
          (λ j l m. leads.between (i + 1) j (omega arith) (omega (arith, n)) l m) one;
    }

pub loop-i-smaller : goal.loop-i-smaller
loop-i-smaller g c =
    let rectangle = rectangle_of g.E.Enclosure.ends in
    let leads = c.requires.leads in
    let n = length-map c.args.row.now rectangle in
    let onward = leads.forward (c.loop-i.i + 1) (omega arith) (omega (arith, n)) in
    omega (arith, length-set c.loop-i.sums c.loop-i.i c.in_ok-sums.field-0)

pub returns : goal.returns
returns g c =
    let rectangle = rectangle_of g.E.Enclosure.ends in
    sym (each_two_all rectangle rectangle (add_times g.E.Enclosure.SCALE (rectangle c.args.f)) c.args.sums.now c.loop-i.sums c.args.row.now c.loop-i.i (omega arith) (omega arith) c.loop-i.invariant.done)
