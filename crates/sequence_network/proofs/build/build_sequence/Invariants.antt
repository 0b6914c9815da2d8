use Rattle.std.proofs.Common.{◌≡◌, length}
use Rattle.net_branch.specs.Exact.{exact_network}
use Rattle.net_branch.specs.Whole.{IsWholeNetwork}
use Rattle.study_model.specs.Elements.{elements_of}
use Rattle.sequence_network.specs.Networks.{added_to, network_of}
use Rattle.sequence_network.proofs.Growth.{Becomes}
use Rattle.sequence_network.proofs.build.build_sequence.Given as goal

abbrev pub invariant-loop-place : goal.invariant-loop-place
invariant-loop-place l = record {
  buses : l.network.buses ≡ length l.study.buses;
  whole : IsWholeNetwork l.network;
  to_come : Becomes (added_to l.study l.sequence) (elements_of l.study) (exact_network l.network) l.place (network_of l.study l.sequence);
}
