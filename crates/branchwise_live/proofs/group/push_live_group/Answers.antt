use Rattle.std.proofs.Common.{◌∙◌, ap, map}
use Rattle.std.specs.Prelude.{Some}
use Rattle.admittance_box.specs.Groups.{coupling_of}
use Rattle.admittance_box.specs.Intervals.{placed_ends}
use Rattle.branchwise_live.specs.Live.{live_ends}
use Rattle.branchwise_live.proofs.Joining.{after, group_is}
use Rattle.branchwise_live.proofs.group.push_live_group.Goals as goal

pub returns : goal.returns
returns g c =
    let ends = g.E.Enclosure.ends in
    let taps = placed_ends ends in
    rw (← ap (after (map (live_ends ends) c.args.branches.now.items)) (group_is g.E.Enclosure.SCALE (coupling_of c.in-Some.values) (map taps c.as_slice.result.now) (map taps c.as_slice-2.result.now) (map taps c.as_slice-3.result.now) _ _ _ _
    c.in-Some.ensures
    (ap (λ l. Some (map taps l)) c.as_slice.ensures.value ∙ (rw (c.in-Some-2.is) at c.in_ok-xs.ensures))
    (ap (λ l. Some (map taps l)) c.as_slice-2.ensures.value ∙ (rw (c.in-Some-3.is) at c.in_ok-ys.ensures))
    (ap (λ l. Some (map taps l)) c.as_slice-3.ensures.value ∙ (rw (c.in-Some-4.is) at c.in_ok-zs.ensures))))
    c.push_four.ensures
