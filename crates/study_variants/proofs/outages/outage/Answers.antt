use Rattle.std.proofs.Common.{◌≡◌, ◌∙◌, ℕ, ◌≤◌, length, take, take_all, List, ap, sym, subst, arith}
use Rattle.net_branch.specs.declared.network.Branch.{Branch}
use Rattle.net_branch.specs.Exact.{exact_network}
use Rattle.net_branch.specs.Whole.{IsWholeNetwork}
use Rattle.study_variants.specs.Outages.{others_in}
use Rattle.study_variants.proofs.LeftBranches.{outage_exact, outage_whole}
use Rattle.study_variants.proofs.outages.outage.Goals as goal

-- all branches are taken
all_taken : (owner at : ℕ) (bs xs : List Branch) → xs ≡ others_in owner (take at bs) → length bs ≤ at → xs ≡ others_in owner bs
all_taken owner at bs xs e h = e ∙ ap (others_in owner) (take_all at bs h)

pub returns-clause-exact : goal.returns-clause-exact
returns-clause-exact c =
    let network = c.args.network.now in
    let all = all_taken c.args.owner c.loop-branch.branch-index network.branches c.loop-branch.branches c.loop-branch.invariant (omega (arith, ap length c.as_slice-branch-items.ensures)) in
    ap (λ (bs : List Branch). exact_network (record network { branches = bs })) all ∙ outage_exact c.args.owner network

pub returns-clause-whole : goal.returns-clause-whole
returns-clause-whole c whole =
    let network = c.args.network.now in
    let all = all_taken c.args.owner c.loop-branch.branch-index network.branches c.loop-branch.branches c.loop-branch.invariant (omega (arith, ap length c.as_slice-branch-items.ensures)) in
    subst (λ (bs : List Branch). IsWholeNetwork (record network { branches = bs })) (sym all) (outage_whole c.args.owner network whole)
