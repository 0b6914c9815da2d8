-- The networks of a study within its tolerances.
use Rattle.std.proofs.Common.{◌≡◌, ◌∙◌, ◌<◌, ℕ, Bool, true, false, List, [], ◌∷◌, refl, ap, sym, subst, arith}
use Rattle.std.specs.List.{AllByRecursion}
use Rattle.network_theory.specs.Between.{IsPair, LiesBetween}
use Rattle.network_theory.specs.Network.{Network, IsWhole}
use Rattle.network_theory.proofs.More.{between_itself}
use Rattle.net_branch.specs.Exact.{exact_network}
use Rattle.net_branch.specs.Whole.{IsWholeNetwork}
use Rattle.net_branch.specs.declared.network.Network.{Network as BuiltNetwork}
use Rattle.study_model.specs.Lawful.{IsLawful, IsLawfulScan}
use Rattle.study_model.specs.declared.records.ScanItem.{ScanItem}
use Rattle.study_model.specs.declared.records.Study.{Study}
use Rattle.study_model.specs.declared.records.Tolerance.{Tolerance}
use Rattle.study_model.specs.declared.words.Sequence.{Sequence}
use Rattle.study_model.specs.declared.words.Sequence.TheVariants.{Positive, Zero}
use Rattle.study_model.specs.declared.words.StudyModel.{StudyModel}
use Rattle.sequence_network.specs.declared.live.Networks.{Networks}
use Rattle.sequence_network.specs.Networks.{network_of}
use Rattle.study_networks.specs.Networks.{network_at, AreNetworksOf}
use Rattle.study_networks.specs.Scanned.{scanned_in, scanned_network, scanned_node}
use Rattle.study_networks.specs.declared.networks.StudyNetworks.{StudyNetworks}
use Rattle.study_networks.specs.declared.networks.StudyNetworks.TheVariants.{Sequences, Phases}
use Rattle.study_networks.proofs.Models.{IsScannedIn, phases_scanned, positive_scanned, zero_scanned}
use Rattle.tolerance_scan.specs.Ends.{network_in, IsWide, AreWide}
use Rattle.tolerance_scan.specs.Natural.{HaveNaturalValues}
use Rattle.tolerance_scan.specs.Small.{AreWidenable}
use Rattle.tolerance_scan.specs.Widened.{widened, widened_by}
use Rattle.tolerance_scan.proofs.Lawful.{tolerances_widenable, none_in_phases}
use Rattle.tolerance_scan.proofs.Naturals.{network_natural}
use Rattle.tolerance_scan.proofs.Pairs.{whole_by, between_by, pair_by}

-- ---- what is built
-- the tolerances of a study can be widened by in each of its networks
pub sequence_widenable : (study : Study) (networks : Networks) (sequence : Sequence) → IsLawful study → AreNetworksOf study (Sequences networks)
    → AreWidenable study.tolerances (exact_network (network_at sequence networks))
sequence_widenable study networks sequence lawful are =
    let is = are.1 sequence in
    subst (AreWidenable study.tolerances) (sym is.exact) (tolerances_widenable study (network_of study sequence) lawful is.small)

pub phases_widenable : (study : Study) (network : BuiltNetwork) → IsLawful study → AreNetworksOf study (Phases network) → AreWidenable study.tolerances (exact_network network)
phases_widenable study network lawful are = subst (λ (ts : List Tolerance). AreWidenable ts (exact_network network)) (sym (none_in_phases study lawful are.0)) tt

-- both sequences with every tolerance one way
pub sequences_wide : (upward : Bool) (ts : List Tolerance) (networks wide : Networks) → IsWide upward ts networks.positive wide.positive → IsWide upward ts networks.zero wide.zero
    → AreWide upward ts (Sequences networks) (Sequences wide)
sequences_wide upward ts networks wide p z scan = go scan.network
  where
    go : (sequence : Sequence) → IsWide upward ts (network_at sequence networks) (network_at sequence wide)
    go Positive = p
    go Zero = z

-- ---- what a scan looks at
-- the network that is built for a scan is the one that it looks at
pub scanned_is : (study : Study) (networks : StudyNetworks) (scan : ScanItem) → AreNetworksOf study networks → IsLawfulScan study.version study.model study.buses scan → IsScannedIn study scan (network_in networks scan)
scanned_is study (Phases network) scan are s = phases_scanned study network scan are s
scanned_is study (Sequences networks) scan are s = go scan.network refl
  where
    go : (sequence : Sequence) → scan.network ≡ sequence → IsScannedIn study scan (network_at sequence networks)
    go Positive e = positive_scanned study networks scan are s e
    go Zero e = zero_scanned study networks scan are s e

nodes_by : (upward : Bool) (ts : List Tolerance) (network : Network) → (widened_by upward ts network).nodes ≡ network.nodes
nodes_by upward [] network = refl
nodes_by upward (t ∷ ts) network = nodes_by upward ts (widened t.element t.permille upward network)

-- the same with every tolerance one way
pub record IsEnd (upward : Bool) (study : Study) (scan : ScanItem) (network : BuiltNetwork) : Type 0 where
  pub exact : exact_network network ≡ widened_by upward study.tolerances (scanned_network study scan)
  pub whole : IsWholeNetwork network
  pub inside : scanned_node scan < network.nodes

pub end_is : (upward : Bool) (study : Study) (networks wide : StudyNetworks) (scan : ScanItem) → AreNetworksOf study networks → IsLawfulScan study.version study.model study.buses scan
    → AreWide upward study.tolerances networks wide → IsEnd upward study scan (network_in wide scan)
end_is upward study networks wide scan are s ends =
    let is = scanned_is study networks scan are s in
    let end = ends scan in
    let same : (exact_network (network_in wide scan)).nodes ≡ (exact_network (network_in networks scan)).nodes = ap (λ (n : Network). n.nodes) end.exact ∙ nodes_by upward study.tolerances (exact_network (network_in networks scan)) in
    record {
      exact = end.exact ∙ ap (widened_by upward study.tolerances) is.exact;
      whole = end.whole;
      inside = omega (arith, is.inside, same);
    }

-- ---- the written values and those within the tolerances
-- the network of a scan, which lies between its two ends
pub record IsWithin (ts : List Tolerance) (network : Network) : Type 0 where
  pub written : LiesBetween network (widened_by false ts network) (widened_by true ts network)
  pub whole : IsWhole (widened_by false ts network)
  pub pair : IsPair (widened_by false ts network) (widened_by true ts network)

natural_within : (ts : List Tolerance) (network : Network) → IsWhole network → HaveNaturalValues network → IsWithin ts network
natural_within ts network w h = record { written = between_by ts network w h; whole = whole_by false ts network w; pair = pair_by ts network w h }

-- without tolerances it is the network itself
none_within : (network : Network) → IsWhole network → IsWithin [] network
none_within network w = let itself = between_itself network w in record { written = itself; whole = w; pair = itself.from_low }

-- the network that a scan looks at in the sequence model
sequence_natural : (study : Study) (networks : Networks) (scan : ScanItem) → IsLawful study → AreNetworksOf study (Sequences networks) → HaveNaturalValues (scanned_network study scan)
unfolding scanned_network
sequence_natural study networks scan lawful are = subst (λ (m : StudyModel). HaveNaturalValues (scanned_in m study scan)) (sym are.0) (network_natural study scan.network lawful)

pub scan_within : (study : Study) (networks : StudyNetworks) (scan : ScanItem) → IsLawful study → AreNetworksOf study networks → IsLawfulScan study.version study.model study.buses scan
    → IsWithin study.tolerances (scanned_network study scan)
scan_within study (Sequences networks) scan lawful are s =
    let is = scanned_is study (Sequences networks) scan are s in
    natural_within study.tolerances (scanned_network study scan) (subst IsWhole is.exact is.whole.exact) (sequence_natural study networks scan lawful are)
scan_within study (Phases network) scan lawful are s =
    let is = scanned_is study (Phases network) scan are s in
    subst (λ (ts : List Tolerance). IsWithin ts (scanned_network study scan)) (sym (none_in_phases study lawful are.0)) (none_within (scanned_network study scan) (subst IsWhole is.exact is.whole.exact))
