-- A study has at most one refusal of its networks.
use Rattle.std.proofs.Common.{◌≡◌, ◌⊎◌, inl, inr, ℕ, ◌<◌, List, length, Option, Some, None, refl, ap, arith}
use Rattle.std.specs.Prelude.{IsSomeAnd, slice_get}
use Rattle.network_theory.specs.Network.{Network}
use Rattle.study_model.specs.declared.fault.StudyFault.{StudyFault}
use Rattle.study_model.specs.declared.fault.StudyFault.TheVariants.{Floating}
use Rattle.study_model.specs.declared.records.ScanItem.{ScanItem}
use Rattle.study_model.specs.declared.records.Study.{Study}
use Rattle.study_model.specs.declared.words.Sequence.TheVariants.{Positive, Zero}
use Rattle.sequence_network.specs.Networks.{network_of}
use Rattle.sequence_network.proofs.Liveness.{no_floating_bus}
use Rattle.sequence_network.specs.Refusals.{bus_place, scan_place, IsLiveScan, IsFirstDead, IsFloatingBus, floating_bus, IsFloatingScan, floating_scan, IsLiveRefusal, positive_passes, zero_passes, bus, scan}

-- an element that is there and fails what another says of it
both : {A : Type 0} (P : A → Type 0) (o : Option A) → IsSomeAnd o (λ x. ¬ P x) → IsSomeAnd o P → ⊥
both P None fails holds = fails
both P (Some x) fails holds = fails holds

-- there is one first dead node
pub same_first : (network : Network) (buses n m : ℕ) → IsFirstDead network buses n → IsFirstDead network buses m → n ≡ m
same_first network buses n m h k = go (order n m)
  where
    order : (a b : ℕ) → (a < b) ⊎ (a ≡ b) ⊎ (b < a)
    order a b = grind arith

    go : (n < m) ⊎ (n ≡ m) ⊎ (m < n) → n ≡ m
    go (inl less) = absurd (h.dead (k.before n less))
    go (inr (inl same)) = same
    go (inr (inr less)) = absurd (k.dead (h.before m less))

same_bus : (network : Network) (buses : ℕ) (f g : StudyFault) → IsFloatingBus network buses f → IsFloatingBus network buses g → f ≡ g
same_bus network buses _ _ (floating_bus n h) (floating_bus m k) = ap (λ (i : ℕ). Floating (bus_place i)) (same_first network buses n m h k)

same_scan : (network : Network) (scans : List ScanItem) (f g : StudyFault) → IsFloatingScan network scans f → IsFloatingScan network scans g → f ≡ g
same_scan network scans _ _ (floating_scan n dead before) (floating_scan m dead' before') = go (order n m)
  where
    order : (a b : ℕ) → (a < b) ⊎ (a ≡ b) ⊎ (b < a)
    order a b = grind arith

    go : (n < m) ⊎ (n ≡ m) ⊎ (m < n) → Floating (scan_place n) ≡ Floating (scan_place m)
    go (inl less) = absurd (both (IsLiveScan network) (slice_get scans n) dead (before' n less))
    go (inr (inl same)) = ap (λ (k : ℕ). Floating (scan_place k)) same
    go (inr (inr less)) = absurd (both (IsLiveScan network) (slice_get scans m) dead' (before m less))

pub same_live_refusal : (study : Study) (f g : StudyFault) → IsLiveRefusal study f → IsLiveRefusal study g → f ≡ g
same_live_refusal study _ _ (positive_passes large) (positive_passes large') = refl
same_live_refusal study _ _ (positive_passes large) (zero_passes fits large') = refl
same_live_refusal study _ _ (positive_passes large) (bus g room floats) = let small = room.positive in absurd (cc)
same_live_refusal study _ _ (positive_passes large) (scan g room buses floats) = let small = room.positive in absurd (cc)
same_live_refusal study _ _ (zero_passes fits large) (positive_passes large') = refl
same_live_refusal study _ _ (zero_passes fits large) (zero_passes fits' large') = refl
same_live_refusal study _ _ (zero_passes fits large) (bus g room floats) = let small = room.zero in absurd (cc)
same_live_refusal study _ _ (zero_passes fits large) (scan g room buses floats) = let small = room.zero in absurd (cc)
same_live_refusal study _ _ (bus f room floats) (positive_passes large) = let small = room.positive in absurd (cc)
same_live_refusal study _ _ (bus f room floats) (zero_passes fits large) = let small = room.zero in absurd (cc)
same_live_refusal study _ _ (bus f room floats) (bus g room' floats') = same_bus (network_of study Positive) (length study.buses) f g floats floats'
same_live_refusal study _ _ (bus f room floats) (scan g room' buses floats') = absurd (no_floating_bus study f buses floats)
same_live_refusal study _ _ (scan f room buses floats) (positive_passes large) = let small = room.positive in absurd (cc)
same_live_refusal study _ _ (scan f room buses floats) (zero_passes fits large) = let small = room.zero in absurd (cc)
same_live_refusal study _ _ (scan f room buses floats) (bus g room' floats') = absurd (no_floating_bus study g buses floats')
same_live_refusal study _ _ (scan f room buses floats) (scan g room' buses' floats') = same_scan (network_of study Zero) study.scans f g floats floats'
