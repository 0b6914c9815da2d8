use Rattle.std.proofs.Common.{◌≡◌, ◌<◌, ◌≤◌, ◌+◌, ℕ, ◌∙◌, List, length, get_or, ap, sym, subst, arith}
use Rattle.std.specs.Prelude.{max}
use Rattle.net_branch.specs.declared.network.Branch.{Branch}
use Rattle.phase_network.proofs.Groups.{next_taken, below_taken}
use Rattle.phase_network.proofs.elements.next_group.Goals as goal

pub loop-branch-preserved : goal.loop-branch-preserved
loop-branch-preserved c =
    let branch = c.branch-item.result in
    let i = c.loop-branch.branch-index in
    let items = c.as_slice-branch-items.ensures in
    let within : i < length c.args.network.now.branches = omega (arith, c.loop-branch-test.true, ap (λ (bs : List Branch). length bs) items) in
    let there : branch ≡ get_or c.args.network.now.branches i branch = subst (λ (bs : List Branch). branch ≡ get_or bs i branch) items c.branch-item.is in
    record {
      value = c.next_after-next.ensures.value ∙ ap (λ (n : ℕ). max n (branch.group + 1)) c.loop-branch.invariant.value ∙ sym (next_taken c.args.network.now.branches i branch within there);
      first = grind (arith, c.next_after-next.ensures.value);
      few = c.next_after-next.ensures.few;
    }

pub returns-clause-below : goal.returns-clause-below
returns-clause-below c =
    let all : length c.args.network.now.branches ≤ c.loop-branch.branch-index = omega (arith, c.loop-branch-test.false, ap (λ (bs : List Branch). length bs) c.as_slice-branch-items.ensures) in
    below_taken c.args.network.now.branches c.loop-branch.branch-index c.loop-branch.next all c.loop-branch.invariant.value
