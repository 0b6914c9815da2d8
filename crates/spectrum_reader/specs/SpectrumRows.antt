-- A row of a spectrum, in the order in which its faults are judged.
use Rattle.std.specs.Prelude.{ℕ, ◌+◌, ◌&&◌, Bool, nat_le, nat_eq, if◌then◌else◌, List, [], ◌∷◌, codes, length, Option, Some, None, option_map, Result, Ok, Err}
use Rattle.std.specs.List.{list_any}
use Rattle.study_model.specs.ValueWords.{phase_of}
use Rattle.study_model.specs.declared.words.Phase.{Phase}
use Rattle.study_model.specs.declared.words.Phase.TheVariants as phase
use Rattle.study_model.specs.declared.words.StudyModel.{StudyModel}
use Rattle.study_model.specs.declared.words.StudyModel.TheVariants as study_model
use Rattle.study_model.specs.declared.records.Study.{Study}
use Rattle.spectrum_reader.specs.declared.injection.Injection.{Injection}
use Rattle.spectrum_reader.specs.declared.injection.TheConstants.{MAX_INJECTIONS}
use Rattle.spectrum_reader.specs.declared.fault.SpectrumFault.{SpectrumFault}
use Rattle.spectrum_reader.specs.declared.fault.SpectrumFault.TheVariants.{BadRow, BadOrder, UnknownBus, BadPhase, BadDecimal, Repeated}
use Rattle.spectrum_reader.specs.Records.{Fields}
use Rattle.spectrum_reader.specs.Rows.{required}
use Rattle.spectrum_reader.specs.Fields.{order_of, bus_named, decimal_in}

-- the names of the fields, which the header has
abbrev pub spectrum_names : StudyModel → List (List ℕ)
spectrum_names study_model.Sequence = codes "order" ∷ codes "bus" ∷ codes "re" ∷ codes "im" ∷ []
spectrum_names study_model.Phases = codes "order" ∷ codes "bus" ∷ codes "phase" ∷ codes "re" ∷ codes "im" ∷ []

-- The texts of a row, by their names; the sequence model has no phase.
pub record SpectrumTexts : Type 0 where
  pub order : List ℕ
  pub bus : List ℕ
  pub phase : Option (List ℕ)
  pub re : List ℕ
  pub im : List ℕ

-- the texts of a record that has as many fields as the header
unfoldable pub spectrum_texts : StudyModel → Fields → Option SpectrumTexts
spectrum_texts study_model.Sequence (order ∷ bus ∷ re ∷ im ∷ []) = Some (record { order = order; bus = bus; phase = None; re = re; im = im })
spectrum_texts study_model.Phases (order ∷ bus ∷ phase ∷ re ∷ im ∷ []) = Some (record { order = order; bus = bus; phase = Some phase; re = re; im = im })
spectrum_texts _ _ = None

-- the number of a phase
abbrev pub phase_number : Phase → ℕ
phase_number phase.A = 0
phase_number phase.B = 1
phase_number phase.C = 2

-- the number of the phase of a row, which is 0 in the sequence model
unfoldable pub phase_in : Option (List ℕ) → Option ℕ
phase_in None = Some 0
phase_in (Some text) = option_map phase_number (phase_of text)

-- an earlier row has the order, the bus and the phase
abbrev pub is_repeated : List Injection → ℕ → ℕ → ℕ → Bool
is_repeated earlier order bus phase = list_any (λ row. nat_eq row.order order && (nat_eq row.bus bus && nat_eq row.phase phase)) earlier

-- The injection that the texts of the row of a number write, beside the rows before it, or the row's first fault.
unfoldable pub injection_of : Study → List Injection → ℕ → SpectrumTexts → Result Injection SpectrumFault
injection_of study earlier number texts =
    required (order_of texts.order) (BadOrder number) (λ order.
    required (bus_named study.buses texts.bus) (UnknownBus number) (λ bus.
    required (phase_in texts.phase) (BadPhase number) (λ phase.
    required (decimal_in texts.re) (BadDecimal number) (λ re.
    required (decimal_in texts.im) (BadDecimal number) (λ im.
    if is_repeated earlier order bus phase then Err (Repeated number)
    else Ok (record { order = order; bus = bus; phase = phase; re = re; im = im }))))))

-- The injection of a record, whose number is one more than there are rows before it. The row after the most rows is refused whatever it holds.
unfoldable pub spectrum_row : Study → List Injection → Fields → Result Injection SpectrumFault
spectrum_row study earlier fields = let number = length earlier + 1 in
    required (if nat_le number MAX_INJECTIONS then spectrum_texts study.model fields else None) (BadRow number) (λ texts.
    injection_of study earlier number texts)
