use Rattle.sequence_network.proofs.AtOrderTwo.{at_order_two}
use Rattle.sequence_network.proofs.worked.impedance_by_hand.Goals as goal

pub returns : goal.returns
returns c = record { law = at_order_two }
