use Rattle.std.proofs.Common.{◌≡◌, ap, arith}
use Rattle.net_branch.specs.Exact.{exact_network}
use Rattle.sequence_network.proofs.Liveness.{buses_within}
use Rattle.study_model.specs.declared.words.Sequence.TheVariants.{Positive}
use Rattle.outages_report.proofs.floating.positive_is_dead.Goals as goal

pub some_node_is_dead-requires-clause-inside : goal.some_node_is_dead-requires-clause-inside
some_node_is_dead-requires-clause-inside c =
    let positive = c.args.positive.now in
    let within = buses_within c.args.study.now Positive (exact_network positive) c.requires.positive.exact c.requires.positive.whole.exact.buses in
    let nodes : c.in_ok-rest.rest.nodes ≡ positive.nodes = ap (λ n. n.nodes) c.in_ok-rest.ensures.branches in
    omega (arith, within, nodes, c.len-buses.ensures)
