-- Which files are accepted, and why their bytes are refused.
use Rattle.std.specs.Prelude.{◌≡◌, ◌≢◌, ℕ, List, Some, None, Ok, Err}
use Rattle.study_model.specs.declared.fault.StudyFault.{StudyFault}
use Rattle.study_model.specs.declared.fault.StudyFault.TheVariants as fault
use Rattle.study_model.specs.declared.records.Study.{Study}
use Rattle.study_reader.specs.StudyOf.{IsStudy, Refused}
use Rattle.study_networks.specs.Networks.{HasLive, IsNetworksRefusal}
use Rattle.spectrum_reader.specs.SpectrumOf.{spectrum_of}
use Rattle.spectrum_reader.specs.LevelsOf.{levels_of}
use Rattle.spectrum_reader.specs.declared.injection.Injection.{Injection}
use Rattle.spectrum_reader.specs.declared.level.Level.{Level}
use Rattle.spectrum_reader.specs.declared.fault.SpectrumFault.{SpectrumFault}
use Rattle.spectrum_reader.specs.declared.fault.SpectrumFault.TheVariants as spectrum_fault
use Rattle.spectrum_reader.specs.declared.fault.LevelsFault.TheVariants as levels_fault
use Rattle.harmonic_injection.specs.Paths.{HavePaths, IsPathless}
use Rattle.scan_report.specs.Reading.{IsReport, BadLine}
use Rattle.scan_report.specs.declared.rows.Row.{Row}
use Rattle.scan_report.specs.declared.reading.ReportFault.TheVariants as report_fault
use Rattle.report_verify.specs.FirstFault.{first_fault}
use Rattle.report_verify.specs.declared.fault.VerifyFault.{VerifyFault}
use Rattle.report_verify.specs.declared.fault.VerifyFault.TheVariants as verify_fault
use Rattle.harmscan_core.specs.declared.files.Refusal.{Refusal}
use Rattle.harmscan_core.specs.declared.files.Refusal.TheVariants as refusal

-- the bytes are a study whose networks are within the limits and live where they have to be
pub record IsAccepted (bytes : List ℕ) (study : Study) : Type 0 where
  pub read : IsStudy bytes study
  pub live : HasLive study

-- the bytes are no study, for this fault, or one whose networks are refused for it
pub data IsRefused (bytes : List ℕ) (fault : StudyFault) : Type 0 where
  unread : Refused bytes fault → IsRefused bytes fault
  network : (study : Study) → IsStudy bytes study → IsNetworksRefusal study fault → IsRefused bytes fault

-- the bytes are a spectrum beside a study, each of whose currents has a path where its model asks for it
pub record IsSpectrum (study : Study) (bytes : List ℕ) (rows : List Injection) : Type 0 where
  pub read : spectrum_of study bytes ≡ Ok rows
  pub paths : HavePaths study rows

-- the bytes are no spectrum beside the study, for this fault, or one of which a current has no path
pub data IsRefusedSpectrum (study : Study) (bytes : List ℕ) (fault : SpectrumFault) : Type 0 where
  unread : spectrum_of study bytes ≡ Err fault → IsRefusedSpectrum study bytes fault
  no_path : (rows : List Injection) → spectrum_of study bytes ≡ Ok rows → IsPathless study rows fault → IsRefusedSpectrum study bytes fault

-- the bytes are planning levels beside a study
abbrev pub AreLevels : Study → List ℕ → List Level → Type 0
AreLevels study bytes rows = levels_of study bytes ≡ Ok rows

-- the bytes are a report that is right of a study: no check of its lines fails
pub record IsRightReport (study : Study) (bytes : List ℕ) (rows : List Row) : Type 0 where
  pub read : IsReport bytes rows
  pub right : first_fault study rows ≡ None

-- the bytes are a report of whose lines a check fails, the first of them for this fault
pub record IsWrongReport (study : Study) (bytes : List ℕ) (fault : VerifyFault) : Type 0 where
  pub rows : List Row
  pub read : IsReport bytes rows
  pub wrong : first_fault study rows ≡ Some fault

-- a refusal that is for a fault of which this holds, and which isn't want of memory
pub record RefusedFor {F : Type 0} (no_memory : F) (refused : F → Refusal) (Fails : F → Type 0) (r : Refusal) : Type 0 where
  pub fault : F
  pub no_lack : fault ≢ no_memory
  pub fails : Fails fault
  pub is : r ≡ refused fault

-- a study's bytes are refused for this
abbrev pub RefusesStudy : List ℕ → Refusal → Type 0
RefusesStudy bytes = RefusedFor fault.NoMemory refusal.Study (IsRefused bytes)

-- a spectrum's bytes are
abbrev pub RefusesSpectrum : Study → List ℕ → Refusal → Type 0
RefusesSpectrum study bytes = RefusedFor spectrum_fault.NoMemory refusal.Spectrum (IsRefusedSpectrum study bytes)

-- a levels file's are
abbrev pub RefusesLevels : Study → List ℕ → Refusal → Type 0
RefusesLevels study bytes = RefusedFor levels_fault.NoMemory refusal.Levels (λ f. levels_of study bytes ≡ Err f)

-- and a report's: they are none, or one that isn't right of the study
pub data RefusesReport (study : Study) (bytes : List ℕ) (r : Refusal) : Type 0 where
  unread : RefusedFor report_fault.NoMemory refusal.Report (BadLine bytes) r → RefusesReport study bytes r
  wrong : RefusedFor verify_fault.NoMemory refusal.Verify (IsWrongReport study bytes) r → RefusesReport study bytes r
