use Rattle.network_theory.proofs.OneNode.{one_node_reduced}
use Rattle.network_theory.proofs.one_node.Goals as goal

pub returns : goal.returns
returns c = record { law = one_node_reduced }
