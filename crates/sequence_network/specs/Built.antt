-- A network of a study as it is built.
use Rattle.std.specs.Prelude.{◌≡◌, IsFalse}
use Rattle.std.specs.List.{AllByRecursion}
use Rattle.network_theory.specs.Network.{IsUncoupled}
use Rattle.net_branch.specs.Exact.{exact_network}
use Rattle.net_branch.specs.Whole.{IsWholeNetwork}
use Rattle.net_branch.specs.declared.network.Network.{Network}
use Rattle.study_model.specs.Elements.{elements_of}
use Rattle.study_model.specs.declared.words.Sequence.{Sequence}
use Rattle.study_model.specs.declared.records.Study.{Study}
use Rattle.element_parts.specs.Small.{HaveSmallLaws}
use Rattle.element_parts.specs.Expansion.{passes_limits}
use Rattle.sequence_network.specs.Networks.{added_to, bus_nodes, network_of}
use Rattle.sequence_network.specs.Owners.{OwnTheirBranches}

-- exactly the study's network, whole and within the limits; its branches are uncoupled and their elements' own, and the numbers of their laws
-- small
pub record IsNetworkOf (study : Study) (sequence : Sequence) (network : Network) : Type 0 where
  pub exact : exact_network network ≡ network_of study sequence
  pub whole : IsWholeNetwork network
  pub fits : IsFalse (passes_limits (network_of study sequence))
  pub small : HaveSmallLaws (network_of study sequence).branches
  pub uncoupled : AllByRecursion IsUncoupled (network_of study sequence).branches
  pub owners : OwnTheirBranches (added_to study sequence) (bus_nodes study) (elements_of study) (network_of study sequence)
