use Rattle.std.proofs.Common.{List, subst}
use Rattle.std.specs.Prelude.{map, MatchOption}
use Rattle.std.specs.List.{AllZip}
use Rattle.network_theory.specs.Between.{BranchUpTo}
use Rattle.net_branch.specs.declared.network.Branch.{Branch}
use Rattle.net_branch.specs.Exact.{exact_branch}
use Rattle.tolerance_scan.specs.Apart.{IsFirstApart, counts}
use Rattle.tolerance_scan.proofs.Apart.{apart_networks}
use Rattle.tolerance_scan.proofs.pair.apart.Goals as goal

pub returns-then-low-high : goal.returns-then-low-high
returns-then-low-high c = counts (λ e. c.if-low-high.true e.0)

pub returns-then-low-high-2 : goal.returns-then-low-high-2
returns-then-low-high-2 c = counts (λ e. c.if-low-high-2.true e.1)

pub returns : goal.returns
returns c =
    apart_networks c.args.low.now c.args.high.now c.first_apart.result c.if-low-high.false c.if-low-high-2.false
    (subst (λ (bs : List Branch). MatchOption c.first_apart.result (AllZip BranchUpTo (map exact_branch bs) (map exact_branch c.args.high.now.branches)) (IsFirstApart (map exact_branch bs) (map exact_branch c.args.high.now.branches)))
    c.as_slice.ensures
    (subst (λ (bs : List Branch). MatchOption c.first_apart.result (AllZip BranchUpTo (map exact_branch c.as_slice.result.now) (map exact_branch bs)) (IsFirstApart (map exact_branch c.as_slice.result.now) (map exact_branch bs)))
    c.as_slice-2.ensures c.first_apart.ensures))
