-- Live networks, and the refusals of others.
use Rattle.std.proofs.Common.{◌≡◌, ℕ, zero, suc, ◌+◌, ◌≤◌, ◌<◌, List, [], ◌∷◌, length, get_or, ap, sym, subst, refl, arith}
use Rattle.std.specs.Prelude.{All, IsSomeAnd, slice_get}
use Rattle.std.proofs.lemmas.Option.{slice_get-get_or, slice_get_read}
use Rattle.network_theory.specs.Network.{Network}
use Rattle.network_theory.specs.Live.{Live}
use Rattle.study_model.specs.Lawful.{IsLawfulScan}
use Rattle.study_model.specs.declared.words.Sequence.{Sequence}
use Rattle.study_model.specs.declared.words.Sequence.TheVariants.{Positive, Zero}
use Rattle.study_model.specs.declared.fault.StudyFault.{StudyFault}
use Rattle.study_model.specs.declared.records.ScanItem.{ScanItem}
use Rattle.study_model.specs.declared.records.Study.{Study}
use Rattle.element_parts.specs.Expansion.{Expansion, with_element}
use Rattle.study_model.specs.Elements.{StudyElement, elements_of}
use Rattle.sequence_network.specs.Networks.{grown, added_to, bus_nodes, network_of}
use Rattle.sequence_network.specs.Refusals.{IsLiveScan, IsFloatingBus, IsFloatingScan, AreLiveBuses, IsLiveRefusal, HasLiveNetworks}
use Rattle.sequence_network.specs.Refusals.IsFloatingBus.{floating_bus}
use Rattle.sequence_network.specs.Refusals.IsFloatingScan.{floating_scan}
use Rattle.sequence_network.specs.Refusals.IsLiveRefusal.{positive_passes, zero_passes, bus, scan}

-- an element at a place
pub some_at : {A : Type 0} (P : A → Type 0) (xs : List A) (i : ℕ) (x : A) → i < length xs → x ≡ get_or xs i x → P x → IsSomeAnd (slice_get xs i) P
some_at P xs i x h e p = subst (λ o. IsSomeAnd o P) (sym (slice_get_read xs (length xs) i x refl h e)) p

pub all_at : {A : Type 0} (P : A → Type 0) (xs : List A) → ((k : ℕ) → k < length xs → IsSomeAnd (slice_get xs k) P) → All P xs
all_at P xs h k d l = subst (λ o. IsSomeAnd o P) (slice_get-get_or xs k d l) (h k l)

-- an element that hasn't what all have
not_all : {A : Type 0} (P : A → Type 0) (xs : List A) (n : ℕ) → All P xs → IsSomeAnd (slice_get xs n) (λ x. ¬ P x) → ⊥
not_all P [] n all h = h
not_all P (x ∷ xs) zero all h = h (all 0 x (omega arith))
not_all P (x ∷ xs) (suc n) all h = not_all P xs n (λ k d l. all (suc k) d (omega arith)) h

-- a study without refusal
pub no_floating_bus : (study : Study) (fault : StudyFault) → AreLiveBuses study → IsFloatingBus (network_of study Positive) (length study.buses) fault → ⊥
no_floating_bus study _ h (floating_bus n first) = first.dead (h n first.inside)

no_floating_scan : (study : Study) (fault : StudyFault) → All (IsLiveScan (network_of study Zero)) study.scans → IsFloatingScan (network_of study Zero) study.scans fault → ⊥
no_floating_scan study _ h (floating_scan n dead before) = not_all (IsLiveScan (network_of study Zero)) study.scans n h dead

pub no_refusal : (study : Study) → HasLiveNetworks study → (fault : StudyFault) → IsLiveRefusal study fault → ⊥
no_refusal study h _ (positive_passes e) = let room = h.room.positive in absurd (cc)
no_refusal study h _ (zero_passes e f) = let room = h.room.zero in absurd (cc)
no_refusal study h _ (bus fault room f) = no_floating_bus study fault h.buses f
no_refusal study h _ (scan fault room live f) = no_floating_scan study fault h.scans f

-- the bus nodes of a network are the study's buses
pub same_buses : (added : Network → StudyElement → ℕ → Expansion) (n : Network) (owner : ℕ) (xs : List StudyElement) → (grown added n owner xs).buses ≡ n.buses
same_buses added n owner [] = refl
same_buses added n owner (x ∷ xs) = same_buses added (with_element n (added n x owner)) (owner + 1) xs

pub buses_of : (study : Study) (sequence : Sequence) → (network_of study sequence).buses ≡ length study.buses
unfolding network_of
buses_of study sequence = same_buses (added_to study sequence) (bus_nodes study) 1 (elements_of study)

-- so many nodes hold the study's buses
pub buses_within : (study : Study) (sequence : Sequence) (n : Network) → n ≡ network_of study sequence → n.buses ≤ n.nodes → length study.buses ≤ n.nodes
buses_within study sequence n e h = omega (arith, ap (λ (m : Network). m.buses) e, buses_of study sequence)

pub scans_within : (study : Study) (scans : List ScanItem) (nodes : ℕ) → scans ≡ study.scans → All (IsLawfulScan study.version study.model study.buses) study.scans → length study.buses ≤ nodes → All (λ s. s.bus < nodes) scans
scans_within study scans nodes e all h = subst (λ (l : List ScanItem). All (λ s. s.bus < nodes) l) (sym e) (λ k d l. let lawful = all k d l in omega (arith, lawful.bus))

-- refusals of one network as those of another
pub floating_bus_in : (n m : Network) (a b : ℕ) (fault : StudyFault) → n ≡ m → a ≡ b → IsFloatingBus n a fault → IsFloatingBus m b fault
floating_bus_in n m a b fault e f h = subst (λ (k : ℕ). IsFloatingBus m k fault) f (subst (λ (k : Network). IsFloatingBus k a fault) e h)

pub floating_scan_in : (n m : Network) (ss ts : List ScanItem) (fault : StudyFault) → n ≡ m → ss ≡ ts → IsFloatingScan n ss fault → IsFloatingScan m ts fault
floating_scan_in n m ss ts fault e f h = subst (λ (l : List ScanItem). IsFloatingScan m l fault) f (subst (λ (k : Network). IsFloatingScan k ss fault) e h)

pub live_buses : (study : Study) (n : Network) (a : ℕ) → n ≡ network_of study Positive → a ≡ length study.buses → ((k : ℕ) → k < a → Live n k) → AreLiveBuses study
live_buses study n a e f h = λ k l. subst (λ (m : Network). Live m k) e (h k (omega arith))

pub live_scans : (n m : Network) (ss ts : List ScanItem) → n ≡ m → ss ≡ ts → All (IsLiveScan n) ss → All (IsLiveScan m) ts
live_scans n m ss ts e f h = subst (λ (l : List ScanItem). All (IsLiveScan m) l) f (subst (λ (k : Network). All (IsLiveScan k) ss) e h)
