-- The nodes of injections.
use Rattle.std.proofs.Common.{◌≡◌, refl, subst, arith, inl, inr, ℕ, suc, ◌≤◌, true, nat_eq, List, [], ◌∷◌, length, All}
use Rattle.std.proofs.lemmas.Bool.{cases_Bool}
use Rattle.std.proofs.lemmas.Bool.Decides.{nat_tests}
use Rattle.std.proofs.lemmas.List.Elements.{All-cons, All-nil}
use Rattle.network_theory.specs.Live.{Live}
use Rattle.study_model.specs.declared.words.StudyModel.{StudyModel}
use Rattle.study_model.specs.declared.words.StudyModel.TheVariants as study_model
use Rattle.study_model.specs.declared.records.Study.{Study}
use Rattle.node_injection.specs.Injected.{ExactInjection}
use Rattle.sequence_network.specs.Networks.{network_of}
use Rattle.spectrum_reader.specs.Lawful.{IsLawfulSpectrum}
use Rattle.spectrum_reader.specs.declared.injection.Injection.{Injection}
use Rattle.harmonic_injection.specs.Injections.{AreInStudy, injection_of, injections_of, node_of}
use Rattle.harmonic_injection.specs.Paths.{HasPath, sequence_of_order}

pub in_study : (study : Study) (rows : List Injection) → IsLawfulSpectrum study rows → AreInStudy study rows
in_study study rows lawful = record { few = lawful.few; buses = λ k d l. (lawful.each k d l).bus; phases = λ k d l. (lawful.each k d l).phase }

pub few : (study : Study) (rows : List Injection) (order : ℕ) → length (injections_of study rows order) ≤ length rows
unfolding injections_of
few study [] order = omega arith
few study (row ∷ rows) order = elim (cases_Bool (nat_eq row.order order)) [
  | inl is ↦ rw is (omega (arith, few study rows order))
  | inr isn ↦ rw isn (omega (arith, few study rows order))
]

same_order : (m n : ℕ) → nat_eq m n ≡ true → m ≡ n
same_order m n h = grind (arith, nat_tests)

bus_node : (model : StudyModel) (bus phase : ℕ) → model ≡ study_model.Sequence → bus ≡ node_of model bus phase
unfolding node_of
bus_node study_model.Sequence bus phase e = refl
bus_node study_model.Phases bus phase e = absurd (cc e)

-- an injection at a node that is live in the network of an order
abbrev IsLiveAt : Study → ℕ → ExactInjection → Type 0
IsLiveAt study order at = Live (network_of study (sequence_of_order order)) at.node

live_node : (study : Study) (row : Injection) (order : ℕ) → study.model ≡ study_model.Sequence → HasPath study row → row.order ≡ order → IsLiveAt study order (injection_of study row)
unfolding injection_of
live_node study row order model path same =
    let at : Live (network_of study (sequence_of_order order)) row.bus = subst (λ (n : ℕ). Live (network_of study (sequence_of_order n)) row.bus) same path in
    subst (λ (n : ℕ). Live (network_of study (sequence_of_order order)) n) (bus_node study.model row.bus row.phase model) at

pub live_nodes : (study : Study) (rows : List Injection) (order : ℕ) → study.model ≡ study_model.Sequence → All (HasPath study) rows → All (IsLiveAt study order) (injections_of study rows order)
unfolding injections_of
live_nodes study [] order model paths = All-nil (IsLiveAt study order)
live_nodes study (row ∷ rows) order model paths =
    let rest = live_nodes study rows order model (λ k d l. paths (suc k) d (omega arith)) in
    elim (cases_Bool (nat_eq row.order order)) [
      | inl is ↦ rw is (All-cons (IsLiveAt study order) (injection_of study row) (injections_of study rows order) (live_node study row order model (paths 0 row (omega arith)) (same_order row.order order is)) rest)
      | inr isn ↦ rw isn rest
    ]
