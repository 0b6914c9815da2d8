use Rattle.std.proofs.Common.{◌≡◌, ◌*◌, ◌+◌, ◌<◌, length}
use Rattle.std.specs.List.{AllByRecursion}
use Rattle.net_branch.specs.Exact.{exact_network}
use Rattle.net_branch.specs.Whole.{IsWholeNetwork}
use Rattle.study_model.specs.Elements.{elements_of}
use Rattle.sequence_network.proofs.Growth.{Becomes}
use Rattle.phase_network.specs.Phases.{phases_added, phase_network_of}
use Rattle.phase_network.proofs.build.build_phases.Given as goal

abbrev pub invariant-loop-place : goal.invariant-loop-place
invariant-loop-place l = record {
  buses : l.network.buses ≡ 3 * length l.study.buses;
  whole : IsWholeNetwork l.network;
  groups : AllByRecursion (λ b. b.group < 64 * l.place + 1) (exact_network l.network).branches;
  to_come : Becomes (phases_added l.study) (elements_of l.study) (exact_network l.network) l.place (phase_network_of l.study);
}
