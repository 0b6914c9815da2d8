use Rattle.std.proofs.Common.{◌∙◌, ◌++◌, ap, map}
use Rattle.std.proofs.lemmas.List.{map-append}
use Rattle.admittance_box.specs.Intervals.{law_ends, placed_ends}
use Rattle.branchwise_live.specs.Live.{live_ends}
use Rattle.branchwise_live.proofs.Joining.{some_of, four_pushed}
use Rattle.branchwise_live.proofs.even.push_four.Goals as goal

pub returns : goal.returns
returns g c =
    let ends = g.E.Enclosure.ends in
    let taps = placed_ends ends in
    let live = live_ends ends in
    let xs = c.args.xs.now in
    let ys = c.args.ys.now in
    let joined = ap (map taps) (c.as_slice-4.ensures.value ∙ c.in_ok-extend_from_slice.ensures.items ∙ ap (λ l. l ++ ys) c.in_ok-both.ensures.items) ∙ map-append taps xs ys in
    rw (← four_pushed g.E.Enclosure.SCALE (map taps xs) (map taps ys) (map taps c.args.zs.now) (law_ends ends c.in-Some.apart) (law_ends ends c.in-Some-common_law.common)
    (map taps c.in-Some-2.less_ys.items) (map taps c.in-Some-3.less_zs.items) (map taps c.as_slice.result.now) (map taps c.as_slice-2.result.now) (map taps c.as_slice-3.result.now) (map taps c.as_slice-4.result.now) _ _ _ _
    (map live c.args.branches.now.items) (map live c.push_with.new.branches.items) (map live c.push_with-2.new.branches.items) (map live c.push_with-3.new.branches.items)
    c.in-Some.ensures c.in-Some-common_law.ensures (rw (c.in-Some-2.is) at c.in_ok-less_ys.ensures) (rw (c.in-Some-3.is) at c.in_ok-less_zs.ensures)
    (ap (map taps) c.as_slice.ensures.value) (ap (map taps) c.as_slice-2.ensures.value) (ap (map taps) c.as_slice-3.ensures.value) joined
    (some_of c.in_ok-push_with.field-0 c.is_none.result _ _ c.if-is_none.false c.is_none.ensures c.in_ok-push_with.ensures)
    (some_of c.in_ok-push_with-2.field-0 c.is_none-2.result _ _ c.if-is_none-2.false c.is_none-2.ensures c.in_ok-push_with-2.ensures)
    (some_of c.in_ok-push_with-3.field-0 c.is_none-3.result _ _ c.if-is_none-3.false c.is_none-3.ensures c.in_ok-push_with-3.ensures))
    c.push_with-4.ensures
