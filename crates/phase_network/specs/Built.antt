-- The network of three phases as it is built.
use Rattle.std.specs.Prelude.{◌≡◌, ◌*◌, IsFalse, length}
use Rattle.network_theory.specs.Network.{IsWhole}
use Rattle.net_branch.specs.Exact.{exact_network}
use Rattle.net_branch.specs.Whole.{IsWholeNetwork}
use Rattle.net_branch.specs.declared.network.Network.{Network}
use Rattle.study_model.specs.Elements.{elements_of}
use Rattle.study_model.specs.Lawful.{IsLawful}
use Rattle.study_model.specs.declared.records.Study.{Study}
use Rattle.element_parts.specs.Small.{HaveSmallLaws}
use Rattle.element_parts.specs.Expansion.{passes_limits}
use Rattle.sequence_network.specs.Owners.{OwnTheirBranches}
use Rattle.phase_network.specs.Phases.{phases_added, phase_buses, phase_network_of}

-- exactly the study's network, with three nodes for each bus, whole and within the limits, so that its groups are complete and their numbers differ; its
-- branches are their elements' own, and the numbers of its laws are small
pub record IsPhaseNetworkOf (study : Study) (network : Network) : Type 0 where
  pub exact : exact_network network ≡ phase_network_of study
  pub buses : network.buses ≡ 3 * length study.buses
  pub whole : IsWholeNetwork network
  pub fits : IsFalse (passes_limits (phase_network_of study))
  pub small : HaveSmallLaws (phase_network_of study).branches
  pub owners : OwnTheirBranches (phases_added study) (phase_buses study) (elements_of study) (phase_network_of study)

-- the network of three phases of a lawful study is whole; its size has no limit here
abbrev pub PhasesAreWhole : Type 0
PhasesAreWhole = (study : Study) → IsLawful study → IsWhole (phase_network_of study)
