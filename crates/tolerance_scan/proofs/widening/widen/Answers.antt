use Rattle.std.proofs.Common.{◌≡◌, ◌∙◌, ◌+◌, ◌≤◌, ℕ, Bool, List, get_or, length, take, take_all, refl, ap, sym, subst, arith}
use Rattle.std.specs.Prelude.{map}
use Rattle.net_branch.specs.declared.network.Branch.{Branch}
use Rattle.net_branch.specs.Exact.{exact_branch, exact_network}
use Rattle.tolerance_scan.specs.Small.{IsWidenable}
use Rattle.tolerance_scan.specs.Widened.{factor_of, widened_branch, widened}
use Rattle.tolerance_scan.proofs.Kept.{AreWidened, widenable_at, widened_next, all_widened, widened_whole, others_kept}
use Rattle.tolerance_scan.proofs.widening.widen.Goals as goal

pub loop-branch-init : goal.loop-branch-init
loop-branch-init c = ap (map exact_branch) c.new-branches.ensures

pub widened_branch-requires-clause-small : goal.widened_branch-requires-clause-small
widened_branch-requires-clause-small c =
    widenable_at c.args.owner c.loop-branch.branch-index c.as_slice-branch-items.result.now c.branch-item.result c.loop-branch-test.true c.branch-item.is
    (subst (λ (bs : List Branch). IsWidenable c.args.owner (record { buses = 0; nodes = 0; branches = map exact_branch bs })) (sym c.as_slice-branch-items.ensures) c.requires.small)

pub loop-branch-preserved : goal.loop-branch-preserved
loop-branch-preserved c =
    subst (AreWidened c.args.owner c.factor_of-factor.result (take (c.loop-branch.branch-index + 1) c.args.network.now.branches)) (sym c.in_ok-push.ensures.ok)
    (widened_next c.args.owner c.factor_of-factor.result c.loop-branch.branch-index c.args.network.now.branches c.loop-branch.branches c.branch-item.result c.in_ok-widened_branch.field-0
    (omega (arith, c.loop-branch-test.true, ap length c.as_slice-branch-items.ensures))
    (subst (λ (bs : List Branch). c.branch-item.result ≡ get_or bs c.loop-branch.branch-index c.branch-item.result) c.as_slice-branch-items.ensures c.branch-item.is)
    c.loop-branch.invariant c.in_ok-widened_branch.ensures)

pub returns-clause-exact : goal.returns-clause-exact
returns-clause-exact c =
    all_widened c.args.owner c.factor_of-factor.result c.args.permille c.loop-branch.branch-index c.args.upward c.args.network.now c.loop-branch.branches c.loop-branch.invariant
    (omega (arith, c.loop-branch-test.false, ap length c.as_slice-branch-items.ensures)) c.factor_of-factor.ensures.factor

pub returns-clause-whole : goal.returns-clause-whole
returns-clause-whole c whole =
    widened_whole c.args.owner c.args.permille c.args.upward c.args.network.now (record c.args.network.now { branches = c.loop-branch.branches })
    (all_widened c.args.owner c.factor_of-factor.result c.args.permille c.loop-branch.branch-index c.args.upward c.args.network.now c.loop-branch.branches c.loop-branch.invariant
    (omega (arith, c.loop-branch-test.false, ap length c.as_slice-branch-items.ensures)) c.factor_of-factor.ensures.factor) whole

pub returns-clause-others : goal.returns-clause-others
returns-clause-others c other apart small =
    subst (IsWidenable other)
    (sym (all_widened c.args.owner c.factor_of-factor.result c.args.permille c.loop-branch.branch-index c.args.upward c.args.network.now c.loop-branch.branches c.loop-branch.invariant
    (omega (arith, c.loop-branch-test.false, ap length c.as_slice-branch-items.ensures)) c.factor_of-factor.ensures.factor))
    (others_kept c.args.owner c.args.permille c.args.upward other (exact_network c.args.network.now) apart small)
