use Rattle.std.proofs.Common.{◌≡◌, [], ◌∷◌, ◌++◌, ap, subst, sym, ◌∙◌}
use Rattle.std.specs.Prelude.{map}
use Rattle.network_theory.specs.Network.{IsGrouped}
use Rattle.net_branch.specs.Exact.{exact_branch}
use Rattle.net_branch.specs.Whole.{IsGrouping}
use Rattle.net_branch.proofs.Wholes.{whole_growing, group_first, group_second, group_third, grouped_grouping}
use Rattle.network_cases.proofs.coupling.push_group.Goals as goal

pub push_branch-requires-clause-growing : goal.push_branch-requires-clause-growing
push_branch-requires-clause-growing c = whole_growing c.args.network.now c.requires.whole

pub push_branch-requires-clause-next : goal.push_branch-requires-clause-next
push_branch-requires-clause-next c =
    group_first c.args.network.now.branches c.args.a c.args.b c.args.c c.requires.whole.exact.groups c.requires.three c.requires.apart

pub push_branch-requires-2-clause-next : goal.push_branch-requires-2-clause-next
push_branch-requires-2-clause-next c =
    subst (λ n. IsGrouping (n.branches ++ c.args.b ∷ [])) (sym c.in_ok-push_branch.ensures.pushed)
    (group_second c.args.network.now.branches c.args.a c.args.b c.args.c c.requires.whole.exact.groups c.requires.three c.requires.apart)

pub push_branch-requires-3-clause-next : goal.push_branch-requires-3-clause-next
push_branch-requires-3-clause-next c =
    let bs = c.args.network.now.branches in
    let two : c.push_branch-2.new.network.branches ≡ bs ++ c.args.a ∷ [] ++ c.args.b ∷ [] = ap (λ n. n.branches) c.in_ok-push_branch-2.ensures.pushed ∙ ap (λ n. n.branches ++ c.args.b ∷ []) c.in_ok-push_branch.ensures.pushed in
    subst (λ xs. IsGrouping (xs ++ c.args.c ∷ [])) (sym two)
    (grouped_grouping (bs ++ c.args.a ∷ [] ++ c.args.b ∷ [] ++ c.args.c ∷ [])
    (group_third bs c.args.a c.args.b c.args.c c.requires.whole.exact.groups c.requires.three c.requires.apart))

pub returns : goal.returns
returns c =
    let bs = c.args.network.now.branches in
    let two : c.push_branch-2.new.network.branches ≡ bs ++ c.args.a ∷ [] ++ c.args.b ∷ [] = ap (λ n. n.branches) c.in_ok-push_branch-2.ensures.pushed ∙ ap (λ n. n.branches ++ c.args.b ∷ []) c.in_ok-push_branch.ensures.pushed in
    let three : c.push_branch-3.new.network.branches ≡ bs ++ c.args.a ∷ [] ++ c.args.b ∷ [] ++ c.args.c ∷ [] = ap (λ n. n.branches) c.in_ok-push_branch-3.ensures.pushed ∙ ap (λ xs. xs ++ c.args.c ∷ []) two in
    c.in_ok-push_branch-3.ensures.whole (subst (λ xs. IsGrouped (map exact_branch xs)) (sym three)
    (group_third bs c.args.a c.args.b c.args.c c.requires.whole.exact.groups c.requires.three c.requires.apart))
