use Rattle.std.proofs.Common.{◌≡◌, ◌<◌, ◌≤◌, ◌+◌, ℕ, length, get_or, ap, sym, subst, arith}
use Rattle.std.specs.Prelude.{map, IsTrue}
use Rattle.net_branch.specs.Exact.{exact_branch}
use Rattle.tolerance_scan.specs.Apart.{IsFirstApart}
use Rattle.tolerance_scan.proofs.Apart.{pair_start, pair_next, apart_here, low_longer, high_longer, all_pairs}
use Rattle.tolerance_scan.proofs.pair.first_apart.Goals as goal

pub loop-branch-init : goal.loop-branch-init
loop-branch-init c = record { so_far = pair_start c.args.low.now c.args.high.now; at = omega arith }

pub returns-then-number-high : goal.returns-then-number-high
returns-then-number-high c =
    subst (IsFirstApart (map exact_branch c.args.low.now) (map exact_branch c.args.high.now)) (sym c.loop-branch.invariant.at)
    (low_longer c.args.low.now c.args.high.now c.loop-branch.branch-index c.branch-item.result c.loop-branch-test.true c.branch-item.is (omega (arith, c.if-number-high.true, c.loop-branch.invariant.at)) c.loop-branch.invariant.so_far)

pub returns-then-not-is_branch_up_to : goal.returns-then-not-is_branch_up_to
returns-then-not-is_branch_up_to c =
    let at = c.loop-branch.invariant.at in
    subst (IsFirstApart (map exact_branch c.args.low.now) (map exact_branch c.args.high.now)) (sym at)
    (apart_here c.args.low.now c.args.high.now c.loop-branch.branch-index c.branch-item.result c.index-high-number.result c.loop-branch-test.true c.branch-item.is
    (omega (arith, c.if-number-high.false, at)) (subst (λ (k : ℕ). c.index-high-number.result ≡ get_or c.args.high.now k c.index-high-number.result) at c.index-high-number.is)
    (λ up. let yes : IsTrue c.is_branch_up_to.result = c.is_branch_up_to.ensures.1 up in absurd (cc)) c.loop-branch.invariant.so_far)

pub loop-branch-preserved : goal.loop-branch-preserved
loop-branch-preserved c =
    let at = c.loop-branch.invariant.at in
    let yes : IsTrue c.is_branch_up_to.result = cc in
    record {
      so_far = pair_next c.args.low.now c.args.high.now c.loop-branch.branch-index c.branch-item.result c.index-high-number.result c.loop-branch-test.true c.branch-item.is
          (omega (arith, c.if-number-high.false, at)) (subst (λ (k : ℕ). c.index-high-number.result ≡ get_or c.args.high.now k c.index-high-number.result) at c.index-high-number.is)
          (c.is_branch_up_to.ensures.0 yes) c.loop-branch.invariant.so_far;
      at = omega (arith, at);
    }

pub returns-then-number-high-2 : goal.returns-then-number-high-2
returns-then-number-high-2 c =
    let at = c.loop-branch.invariant.at in
    subst (IsFirstApart (map exact_branch c.args.low.now) (map exact_branch c.args.high.now)) (sym at)
    (high_longer c.args.low.now c.args.high.now c.loop-branch.branch-index (omega (arith, c.loop-branch-test.false)) (omega (arith, c.if-number-high-2.true, at)) c.loop-branch.invariant.so_far)

pub returns : goal.returns
returns c =
    let at = c.loop-branch.invariant.at in
    all_pairs c.args.low.now c.args.high.now c.loop-branch.branch-index (omega (arith, c.loop-branch-test.false)) (omega (arith, c.if-number-high-2.false, at)) c.loop-branch.invariant.so_far
