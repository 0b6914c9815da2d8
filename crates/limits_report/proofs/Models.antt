-- The network that an order sees, of the networks of a study.
use Rattle.std.proofs.Common.{◌≡◌, ◌∙◌, sym, ap, ℕ, subst}
use Rattle.net_branch.specs.Exact.{exact_network}
use Rattle.net_branch.specs.Whole.{IsWholeNetwork}
use Rattle.net_branch.specs.declared.network.Network.{Network}
use Rattle.sequence_network.specs.declared.live.Networks.{Networks}
use Rattle.harmonic_injection.specs.Paths.{sequence_of_order}
use Rattle.study_model.specs.declared.records.Study.{Study}
use Rattle.study_model.specs.declared.words.Sequence.{Sequence}
use Rattle.study_model.specs.declared.words.Sequence.TheVariants.{Positive, Zero}
use Rattle.study_model.specs.declared.words.StudyModel.{StudyModel}
use Rattle.study_networks.specs.Networks.{AreNetworksOf, network_at as sequence_at}
use Rattle.study_networks.specs.declared.networks.StudyNetworks.TheVariants.{Sequences, Phases}
use Rattle.limits_report.specs.Table.{network_in, network_at}

-- a network is the one that an order sees, and whole
pub record IsSeen (study : Study) (order : ℕ) (network : Network) : Type 0 where
  pub exact : exact_network network ≡ network_at study order
  pub whole : IsWholeNetwork network

seen_sequence : (study : Study) (networks : Networks) (order : ℕ) → AreNetworksOf study (Sequences networks) → IsSeen study order (sequence_at (sequence_of_order order) networks)
unfolding network_at
seen_sequence study networks order are =
    let is = are.1 (sequence_of_order order) in
    record { exact = is.exact ∙ sym (ap (λ (m : StudyModel). network_in m study order) are.0); whole = is.whole }

pub seen_positive : (study : Study) (networks : Networks) (order : ℕ) → AreNetworksOf study (Sequences networks) → Positive ≡ sequence_of_order order → IsSeen study order networks.positive
seen_positive study networks order are e = subst (λ (s : Sequence). IsSeen study order (sequence_at s networks)) (sym e) (seen_sequence study networks order are)

pub seen_zero : (study : Study) (networks : Networks) (order : ℕ) → AreNetworksOf study (Sequences networks) → Zero ≡ sequence_of_order order → IsSeen study order networks.zero
seen_zero study networks order are e = subst (λ (s : Sequence). IsSeen study order (sequence_at s networks)) (sym e) (seen_sequence study networks order are)

pub seen_in_phases : (study : Study) (network : Network) (order : ℕ) → AreNetworksOf study (Phases network) → IsSeen study order network
unfolding network_at
seen_in_phases study network order are =
    record { exact = are.1.exact ∙ sym (ap (λ (m : StudyModel). network_in m study order) are.0); whole = are.1.whole }
