use Rattle.std.proofs.Common.{◌+◌, max, arith}
use Rattle.net_branch.proofs.Wholes.{uncoupled_element, at_more_nodes}
use Rattle.network_cases.proofs.building.add_tie.Goals as goal

pub append_element-requires-clause-element : goal.append_element-requires-clause-element
append_element-requires-clause-element c =
    let network = c.args.network.now in
    let branches = c.in_ok-branches.branches in
    uncoupled_element network c.args.inner branches
    (at_more_nodes (max c.args.from c.args.to + 1) (network.nodes + c.args.inner)
    (omega (arith, c.if-from-nodes.true, c.if-from-nodes-2.true, c.from.ensures, c.from-2.ensures, c.from-3.ensures, c.from-then-from-nodes.ensures))
    branches c.in_ok-branches.ensures.taps)
    c.in_ok-branches.ensures.uncoupled c.in_ok-branches.ensures.laws
