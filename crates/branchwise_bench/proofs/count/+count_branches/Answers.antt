use Rattle.std.proofs.Common.{◌≡◌, ◌∙◌, ◌∷◌, length, map, take, drop, refl, ap, arith, rules, ◌-◌}
use Rattle.std.proofs.lemmas.List.{length-map}
use Rattle.drop_bench.specs.Drops.{drop_ends, bare}
use Rattle.branchwise_bench.specs.Layout.{own_drops}
use Rattle.branchwise_live.specs.Live.{live_ends}
use Rattle.branchwise_live.proofs.Joining.{first_more}
use Rattle.branchwise_bench.proofs.Counting.{no_more, all_taken, next_fits, next_laid}
use Rattle.branchwise_bench.proofs.count.+count_branches.Goals as goal

pub count_branches-requires : goal.count_branches-requires
count_branches-requires g t c κs within =
    let h = drop_ends g.E.Enclosure.ends in
    let live = live_ends g.E.Enclosure.ends in
    let bs = c.args.branches.now in
    let old = c.args.drops.now in
    let new = c.count_branch.new.drops in
    let rest = take (length bs - 1) (drop 1 bs) in
    let next = c.in_ok-next-in-len1-up.next in
    let laid : drop c.args.done (map bare (map h old)) ≡ own_drops (live c.first-item.result ∷ map live rest) = c.requires.laid ∙ ap own_drops (first_more live bs c.first-item.result c.in-len1-up.len_at_least c.first-item.is) in
    let same : map bare (map h new) ≡ map bare (map h old) = c.in_ok-next-in-len1-up.ensures.bare in
    let fits = next_fits (live c.first-item.result) (map live rest) (map bare (map h old)) c.args.done next laid c.in_ok-next-in-len1-up.ensures.next (let d = c.requires.done_in in omega (arith, d, length-map (map h old) bare, length-map old h)) in (
      search rules,
      (
        within,
        (
          omega (arith, fits, ap length same, length-map (map h old) bare, length-map (map h new) bare, length-map new h),
          ap (drop next) same ∙ next_laid (live c.first-item.result) (map live rest) (map bare (map h old)) c.args.done next laid c.in_ok-next-in-len1-up.ensures.next,
        ),
      ),
    )

pub returns-in-empty-clause-value : goal.returns-in-empty-clause-value
returns-in-empty-clause-value g t c =
    let h = drop_ends g.E.Enclosure.ends in
    let live = live_ends g.E.Enclosure.ends in
    let none = no_more live c.args.branches.now c.in-empty.len_below in
    let all = all_taken h c.args.drops.now c.args.done (c.requires.laid ∙ ap own_drops none) in
    rw (none, all) refl
