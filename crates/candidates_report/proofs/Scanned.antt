-- The network that a bank is added to, and the bus of its scan.
use Rattle.std.proofs.Common.{◌≡◌, ◌∙◌, ℕ, ℤ, List, map, refl, ap, subst}
use Rattle.std.specs.Prelude.{Option, Some, None, Result, Ok, Err, IfOk}
use Rattle.network_theory.specs.Live.{Live}
use Rattle.network_theory.specs.Network.{Network, IsWhole}
use Rattle.band_subdivision.specs.declared.scan_spec.ScanSpec.{ScanSpec}
use Rattle.sequence_network.specs.Networks.{network_of}
use Rattle.study_model.specs.Lawful.{IsLawfulScan, IsOfPositive}
use Rattle.study_model.specs.Rules.{IsScanned}
use Rattle.study_model.specs.declared.records.ScanItem.{ScanItem}
use Rattle.study_model.specs.declared.records.Study.{Study}
use Rattle.study_model.specs.declared.words.Phase.{Phase}
use Rattle.study_model.specs.declared.words.Sequence.{Sequence}
use Rattle.study_model.specs.declared.words.Sequence.TheVariants.{Positive, Zero}
use Rattle.study_model.specs.declared.words.StudyModel.{StudyModel}
use Rattle.study_model.specs.declared.words.StudyModel.TheVariants as study_model
use Rattle.study_networks.specs.Networks.{HasLiveIn, HasLive}
use Rattle.study_networks.specs.Scanned.{scanned_in, scanned_network}
use Rattle.study_scans.specs.Scan.{spec_of, ordering_of}
use Rattle.study_scans.proofs.NodeOrderings.{order_is}
use Rattle.study_variants.specs.Sizes.{Sizing, size_row, AreCandidatesOf}
use Rattle.study_variants.specs.declared.size_row.SizeRow.{SizeRow}
use Rattle.candidates_report.specs.Sizes.{kept_network, sizing_of, sizes_of}

-- a scan without a phase is one of the sequence model
of_sequences : (model : StudyModel) (network : Sequence) (phase : Option Phase) → IsScanned model network phase → phase ≡ None → model ≡ study_model.Sequence
of_sequences study_model.Sequence network phase is e = refl
of_sequences study_model.Phases network (Some phase) is e = absurd cc
of_sequences study_model.Phases Positive None is e = absurd is
of_sequences study_model.Phases Zero None is e = absurd is

sequences : (study : Study) (scan : ScanItem) → IsLawfulScan study.version study.model study.buses scan → IsOfPositive scan → study.model ≡ study_model.Sequence
sequences study scan s positive = of_sequences study.model scan.network scan.phase s.network_phase positive.1

-- a scan of the positive network looks at the network that is kept
pub kept_is : (study : Study) (scan : ScanItem) → IsLawfulScan study.version study.model study.buses scan → IsOfPositive scan → scanned_network study scan ≡ kept_network study
unfolding scanned_network
kept_is study scan s positive = ap (λ (m : StudyModel). scanned_in m study scan) (sequences study scan s positive) ∙ ap (λ (q : Sequence). network_of study q) positive.0

-- its bus is live there
pub bus_is_live : (study : Study) (scan : ScanItem) → HasLive study → IsLawfulScan study.version study.model study.buses scan → IsOfPositive scan → Live (kept_network study) scan.bus
unfolding HasLive
bus_is_live study scan live s positive = (subst (λ (m : StudyModel). HasLiveIn m study) (sequences study scan s positive) live).buses scan.bus s.bus

-- ---- the candidates that are made
abbrev sizing_with : ScanSpec → Network → ℕ → List ℕ → List ℤ → ℕ → Sizing
sizing_with spec network driven ordering sizes given = record { spec = spec; network = network; driven = driven; ordering = ordering; sizes = sizes; given = given }

same_sizing : (s t : ScanSpec) (n m : Network) (d e : ℕ) (o p : List ℕ) (x y : List ℤ) (g h : ℕ) → s ≡ t → n ≡ m → d ≡ e → o ≡ p → x ≡ y → g ≡ h
    → sizing_with s n d o x g ≡ sizing_with t m e p y h
same_sizing s t n m d e o p x y g h a b c f i j = cc

made : (study : Study) (scan : ScanItem) (network : Network) (spec : ScanSpec) (sizes : List ℤ) (c : Sizing) → network ≡ kept_network study → spec ≡ spec_of study scan → IsWhole network
    → AreCandidatesOf network scan.bus spec sizes c → c ≡ sizing_of study scan sizes
made study scan network spec sizes c is asked whole are =
    same_sizing c.spec _ c.network _ c.driven _ c.ordering _ c.sizes _ c.given _ (are.same_spec ∙ asked) (are.same_network ∙ is) are.at
    (order_is network scan.bus c.ordering whole are.ready.ordered ∙ ap (λ (n : Network). ordering_of n scan.bus) is) are.same_sizes are.none_given

-- their sizes are those of the scan
pub tried_sizes : {F : Type 0} (study : Study) (scan : ScanItem) (scale : ℕ) (network : Network) (spec : ScanSpec) (sizes : List ℤ) (c : Sizing) (r : Result (List SizeRow) F) → scale ≡ study.scale
    → network ≡ kept_network study → spec ≡ spec_of study scan → IsWhole network → AreCandidatesOf network scan.bus spec sizes c → IfOk r (λ rows. rows ≡ map (size_row scale c) c.sizes)
    → IfOk r (λ rows. rows ≡ sizes_of study scan sizes)
unfolding sizes_of
tried_sizes study scan scale network spec sizes c (Err fault) e is asked whole are all = tt
tried_sizes study scan scale network spec sizes c (Ok rows) e is asked whole are all =
    all ∙ ap (λ (s : ℕ). map (size_row s c) c.sizes) e ∙ ap (λ (k : Sizing). map (size_row study.scale k) k.sizes) (made study scan network spec sizes c is asked whole are)
