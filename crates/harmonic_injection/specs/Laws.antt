-- Laws of injections.
use Rattle.std.specs.Prelude.{◌≡◌, ℕ, ◌≤◌, List, length, All}
use Rattle.network_theory.specs.Live.{Live}
use Rattle.study_model.specs.declared.words.StudyModel.TheVariants as study_model
use Rattle.study_model.specs.declared.records.Study.{Study}
use Rattle.sequence_network.specs.Networks.{network_of}
use Rattle.spectrum_reader.specs.Lawful.{IsLawfulSpectrum}
use Rattle.spectrum_reader.specs.declared.injection.Injection.{Injection}
use Rattle.harmonic_injection.specs.Injections.{AreInStudy, injections_of}
use Rattle.harmonic_injection.specs.Paths.{HasPath, sequence_of_order}

-- the rows of a lawful spectrum can be placed
abbrev pub LawfulIsInStudy : Type 0
LawfulIsInStudy = (study : Study) (rows : List Injection) → IsLawfulSpectrum study rows → AreInStudy study rows

-- an order has at most as many injections as there are rows
abbrev pub AtMostAllRows : Type 0
AtMostAllRows = (study : Study) (rows : List Injection) (order : ℕ) → length (injections_of study rows order) ≤ length rows

-- where each row has a path, each node of an order is live in the network that the order sees
abbrev pub NodesAreLive : Type 0
NodesAreLive = (study : Study) (rows : List Injection) (order : ℕ) → study.model ≡ study_model.Sequence → All (HasPath study) rows
    → All (λ at. Live (network_of study (sequence_of_order order)) at.node) (injections_of study rows order)
