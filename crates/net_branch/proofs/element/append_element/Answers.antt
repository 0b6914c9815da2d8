use Rattle.std.proofs.Common.{◌+◌, ◌≤◌, length, subst, sym, arith}
use Rattle.net_branch.specs.Whole.{IsWholeNetwork}
use Rattle.net_branch.specs.declared.limits.TheConstants.{MAX_NODES, MAX_BRANCHES}
use Rattle.net_branch.proofs.Wholes.{element_whole}
use Rattle.net_branch.proofs.element.append_element.Goals as goal

pub returns-in-Ok-clause-whole : goal.returns-in-Ok-clause-whole
returns-in-Ok-clause-whole c =
    let n = c.args.network.now in
    let nodes_fit : n.nodes + c.args.inner ≤ MAX_NODES = omega (arith, c.if-inner-network.false, c.requires.whole.limits.nodes) in
    let branches_fit : length n.branches + length c.args.branches ≤ MAX_BRANCHES = omega (arith, c.if-len.false, c.len.ensures, c.len-2.ensures, c.requires.whole.limits.branches) in
    subst (λ bs. IsWholeNetwork (record n { nodes = n.nodes + c.args.inner; branches = bs })) (sym c.in-Ok.ensures.appended)
    (element_whole n c.args.inner c.args.branches c.requires.whole c.requires.element nodes_fit branches_fit)
