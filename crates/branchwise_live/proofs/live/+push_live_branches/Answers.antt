use Rattle.std.proofs.Common.{◌≡◌, ◌∙◌, ◌++◌, ◌-◌, length, map, take, drop, sym, ap₂}
use Rattle.std.specs.Option.{option_map}
use Rattle.net_branch.specs.Exact.{exact_branch}
use Rattle.admittance_box.specs.Addends.{place_in_group}
use Rattle.branchwise_test.specs.Drops.{first_live, live_branches}
use Rattle.branchwise_live.specs.Live.{live_ends}
use Rattle.branchwise_live.proofs.Joining.{first_more, live_more, live_none, none_of, some_of}
use Rattle.branchwise_live.proofs.live.+push_live_branches.Goals as goal

pub returns-then-is_none : goal.returns-then-is_none
returns-then-is_none g t c =
    let s = g.E.Enclosure.SCALE in
    let ordering = c.args.ordering.now in
    let lows = c.args.low.now in
    let highs = c.args.high.now in
    let front = map (live_ends g.E.Enclosure.ends) c.args.branches.now.items in
    let low = first_more exact_branch lows c.first_low-item.result c.in-len1-up.len_at_least c.first_low-item.is in
    let high = first_more exact_branch highs c.first_high-item.result c.in-len1-up-high.len_at_least c.first_high-item.is in
    let rest_low = map exact_branch (take (length lows - 1) (drop 1 lows)) in
    let rest_high = map exact_branch (take (length highs - 1) (drop 1 highs)) in
    live_none front (first_live s ordering (place_in_group (exact_branch c.first_low-item.result).law) (exact_branch c.first_low-item.result) rest_low (exact_branch c.first_high-item.result) rest_high) (live_branches s ordering rest_low rest_high)
    (none_of c.in_ok-push_first-in-len1-up-high.field-0 c.is_none.result _ _ c.if-is_none.true c.is_none.ensures c.in_ok-push_first-in-len1-up-high.ensures)
    ∙ ap₂ (λ x y. option_map (λ more. front ++ more) (live_branches s ordering x y)) (sym low) (sym high)

pub returns-else-is_none : goal.returns-else-is_none
returns-else-is_none g t c =
    let s = g.E.Enclosure.SCALE in
    let ordering = c.args.ordering.now in
    let lows = c.args.low.now in
    let highs = c.args.high.now in
    let live = live_ends g.E.Enclosure.ends in
    let front = map live c.args.branches.now.items in
    let new = map live c.push_first.new.branches.items in
    let rest_low = map exact_branch (take (length lows - 1) (drop 1 lows)) in
    let rest_high = map exact_branch (take (length highs - 1) (drop 1 highs)) in
    let low = first_more exact_branch lows c.first_low-item.result c.in-len1-up.len_at_least c.first_low-item.is in
    let high = first_more exact_branch highs c.first_high-item.result c.in-len1-up-high.len_at_least c.first_high-item.is in
    let more : option_map (λ more. new ++ more) (live_branches s ordering rest_low rest_high) ≡ option_map (λ more. front ++ more) (live_branches s ordering (map exact_branch lows) (map exact_branch highs)) =
    live_more front new (first_live s ordering (place_in_group (exact_branch c.first_low-item.result).law) (exact_branch c.first_low-item.result) rest_low (exact_branch c.first_high-item.result) rest_high) (live_branches s ordering rest_low rest_high)
    (some_of c.in_ok-push_first-in-len1-up-high.field-0 c.is_none.result _ _ c.if-is_none.false c.is_none.ensures c.in_ok-push_first-in-len1-up-high.ensures)
    ∙ ap₂ (λ x y. option_map (λ more. front ++ more) (live_branches s ordering x y)) (sym low) (sym high) in
    rw (← more) c.push_live_branches.ensures
