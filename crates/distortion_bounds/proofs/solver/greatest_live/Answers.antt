use Rattle.std.proofs.Common.{◌≡◌, ◌∙◌, false, get_or, sym, subst, ap, arith}
use Rattle.network_theory.specs.Live.{Live}
use Rattle.net_branch.specs.Exact.{exact_network}
use Rattle.distortion_bounds.specs.Solver.{last_in}
use Rattle.distortion_bounds.proofs.Orders.{last_mark, last_live-live}
use Rattle.distortion_bounds.proofs.solver.greatest_live.Goals as goal

pub returns-clause-value : goal.returns-clause-value
returns-clause-value c =
    let end : c.loop-node.node ≡ c.args.network.now.nodes = omega (arith, c.loop-node-test.false, c.loop-node.auto.node-end) in
    c.loop-node.invariant ∙ ap (last_in (λ n. get_or c.args.marks.now n false)) end ∙ last_mark c.args.network.now c.args.marks.now c.requires.whole c.requires.marks

pub returns-clause-live : goal.returns-clause-live
returns-clause-live c =
    let end : c.loop-node.node ≡ c.args.network.now.nodes = omega (arith, c.loop-node-test.false, c.loop-node.auto.node-end) in
    let value = c.loop-node.invariant ∙ ap (last_in (λ n. get_or c.args.marks.now n false)) end ∙ last_mark c.args.network.now c.args.marks.now c.requires.whole c.requires.marks in
    subst (Live (exact_network c.args.network.now)) (sym value) (last_live-live (exact_network c.args.network.now) c.requires.whole.exact c.requires.some)
