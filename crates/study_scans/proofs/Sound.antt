-- The test of a scan is sound.
use Rattle.std.proofs.Common.{◌≡◌, ◌≤◌, ℕ, ℤ, pos, ◌≤ℤ◌, Bool, true, false, unsigned_abs, refl, subst, arith}
use Rattle.std.specs.Prelude.{if◌then◌else◌}
use Rattle.std.proofs.lemmas.Int.{ints}
use Rattle.network_theory.specs.Between.{IsPair, LiesBetween}
use Rattle.network_theory.specs.Network.{Network, IsWhole}
use Rattle.network_theory.specs.Reach.{is_live}
use Rattle.network_theory.proofs.More.{between_itself}
use Rattle.network_theory.proofs.Reach.{live_in_rounds}
use Rattle.admittance_box.specs.HeldMatrix.{CanAssemble}
use Rattle.band_subdivision.specs.Parts.{nowhere}
use Rattle.band_subdivision.specs.ScanSpec.{asked_of, threshold_of, IsScanSpec, nothing}
use Rattle.band_subdivision.specs.Truth.{Scanned, IsSound}
use Rattle.band_subdivision.specs.declared.scan_spec.ScanSpec.{ScanSpec}
use Rattle.band_subdivision.proofs.Curves.{levels_hold}
use Rattle.band_subdivision.proofs.PairSound.{pair_is_sound}
use Rattle.study_model.specs.Lawful.{IsLawful, IsLawfulScan}
use Rattle.study_model.specs.declared.records.ScanItem.{ScanItem}
use Rattle.study_model.specs.declared.records.Study.{Study}
use Rattle.study_model.specs.declared.words.Sequence.{Sequence}
use Rattle.study_model.specs.declared.words.Sequence.TheVariants.{Positive, Zero}
use Rattle.study_networks.specs.Networks.{AreNetworksOf}
use Rattle.study_networks.specs.Scanned.{scanned_network, scanned_node}
use Rattle.study_networks.specs.declared.networks.StudyNetworks.{StudyNetworks}
use Rattle.study_networks.specs.declared.networks.StudyNetworks.TheVariants.{Sequences, Phases}
use Rattle.study_networks.proofs.Models.{phases_scanned, positive_scanned, zero_scanned}
use Rattle.study_scans.specs.Claim.{TestsAreSound, looked_over, looked_at}
use Rattle.study_scans.specs.Scan.{spec_of, ordering_of, live_test, test_of}
use Rattle.study_scans.proofs.Asked.{spec_in_range}
use Rattle.study_scans.proofs.NodeOrderings.{found_order}

nowhere_is_sound : (from : ℕ) (s : Scanned) → IsSound from s nowhere
nowhere_is_sound from s = record { clear = λ lo hi testable e. absurd cc; above = λ at ohms testable e. absurd cc }

-- a pair of networks is assembled at a live node
can_assemble : (low high : Network) (node : ℕ) → IsWhole low → IsPair low high → is_live low node ≡ true → CanAssemble low high node (ordering_of low node)
can_assemble low high node whole pair live = record { pair = pair; driven_is_live = (live_in_rounds low whole node).0 live; ordered = found_order low node whole }

pub test_is_sound : TestsAreSound
test_is_sound scale spec low high node network s whole pair between = go (is_live low node) refl
  where
    go : (live : Bool) → is_live low node ≡ live → IsSound spec.from (looked_over spec network node) (if live then live_test scale spec low high node else nowhere)
    go true live =
        pair_is_sound scale spec.from (threshold_of spec) spec.kv spec.mva (asked_of spec) low high node (ordering_of low node) nothing
        (levels_hold spec s.levels) (can_assemble low high node whole pair live) (omega (arith, ints)) network between
    go false dead = nowhere_is_sound spec.from (looked_over spec network node)

-- ---- a scan of a study
whole_in : (study : Study) (networks : StudyNetworks) (scan : ScanItem) (sequence : Sequence) → scan.network ≡ sequence → AreNetworksOf study networks
    → IsLawfulScan study.version study.model study.buses scan → IsWhole (scanned_network study scan)
whole_in study (Phases network) scan sequence e are s = let is = phases_scanned study network scan are s in subst IsWhole is.exact is.whole.exact
whole_in study (Sequences networks) scan Positive e are s = let is = positive_scanned study networks scan are s e in subst IsWhole is.exact is.whole.exact
whole_in study (Sequences networks) scan Zero e are s = let is = zero_scanned study networks scan are s e in subst IsWhole is.exact is.whole.exact

-- its network is whole
pub scanned_whole : (study : Study) (networks : StudyNetworks) (scan : ScanItem) → AreNetworksOf study networks → IsLawfulScan study.version study.model study.buses scan → IsWhole (scanned_network study scan)
scanned_whole study networks scan are s = whole_in study networks scan scan.network refl are s

pub scan_is_sound : (study : Study) (networks : StudyNetworks) (scan : ScanItem) → IsLawful study → AreNetworksOf study networks → IsLawfulScan study.version study.model study.buses scan
    → IsSound (unsigned_abs scan.from) (looked_at study scan) (test_of study scan)
unfolding test_of
scan_is_sound study networks scan b are s =
    let network = scanned_network study scan in
    let whole = scanned_whole study networks scan are s in
    let itself = between_itself network whole in
    test_is_sound study.scale (spec_of study scan) network network (scanned_node scan) network (spec_in_range study scan b s) whole itself.from_low itself
