-- What the words name is read in their order, and what is told of it decides what is read.
use Rattle.std.proofs.Common.{List, [], ◌∷◌, ◌++◌, ℕ, Option, Some, None}
use Rattle.study_model.specs.declared.records.Study.{Study}
use Rattle.spectrum_reader.specs.declared.injection.Injection.{Injection}
use Rattle.spectrum_reader.specs.declared.level.Level.{Level}
use Rattle.harmscan_core.specs.Accepted.{IsAccepted, RefusesStudy, IsSpectrum, RefusesSpectrum, AreLevels, RefusesLevels, IsRightReport, RefusesReport}
use Rattle.harmscan_core.specs.Files.{Reads, TellsFile, Gives, Then}
use Rattle.harmscan_core.specs.Subject.{Subject, scanned, with_banks, within_tolerances, without_elements, distorted, drilled, verified, StudyBy, SpectrumBy, LevelsBy, ReportBy, SubjectBy, ReadsFor}
use Rattle.harmscan_core.specs.Words.{Reading, scan, candidates, tolerance, outages, limits, drill, verify, names_in}
use Rattle.harmscan_core.specs.declared.files.File.TheVariants as file
use Rattle.harmscan_core.proofs.Accepted.{study_decided}
use Rattle.harmscan_core.proofs.Chains.{IsReading, file_is, gives_is, then_is, IsForetold, file_foretold, gives_foretold, then_foretold}
use Rattle.harmscan_core.proofs.Rights.{report_decided}
use Rattle.harmscan_core.proofs.Spectra.{spectrum_decided, levels_decided}
use Rattle.scan_report.specs.declared.rows.Row.{Row}

-- the names of a levels file or none
abbrev name_of : Option (List ℕ) → List (List ℕ)
name_of None = []
name_of (Some name) = name ∷ []

study_is : (name : List ℕ) → IsReading (name ∷ []) (StudyBy Reads name)
study_is name = file_is Study file.Study IsAccepted RefusesStudy name

spectrum_is : (study : Study) (name : List ℕ) → IsReading (name ∷ []) (SpectrumBy Reads study name)
spectrum_is study name = file_is (List Injection) file.Spectrum (IsSpectrum study) (RefusesSpectrum study) name

levels_are : (study : Study) (name : Option (List ℕ)) → IsReading (name_of name) (LevelsBy Reads study name)
levels_are study None = gives_is (List Level) []
levels_are study (Some name) = file_is (List Level) file.Levels (AreLevels study) (RefusesLevels study) name

report_is : (study : Study) (name : List ℕ) → IsReading (name ∷ []) (ReportBy Reads study name)
report_is study name = file_is (List Row) file.Report (IsRightReport study) (RefusesReport study) name

limits_is : (study spectrum : List ℕ) (levels : Option (List ℕ)) → IsReading ((study ∷ []) ++ ((spectrum ∷ []) ++ (name_of levels ++ []))) (ReadsFor (limits study spectrum levels))
limits_is study spectrum levels =
    then_is Study Subject (study ∷ []) ((spectrum ∷ []) ++ (name_of levels ++ [])) _ _ (study_is study) (λ s.
    then_is (List Injection) Subject (spectrum ∷ []) (name_of levels ++ []) _ _ (spectrum_is s spectrum) (λ rows.
    then_is (List Level) Subject (name_of levels) [] _ _ (levels_are s levels) (λ l. gives_is Subject (distorted s rows l))))

-- one study, which is all that is read
one_study_is : (name : List ℕ) (subject : Study → Subject) → IsReading (name ∷ []) (Then (StudyBy Reads name) (λ s. Gives (subject s)))
one_study_is name subject = then_is Study Subject (name ∷ []) [] _ _ (study_is name) (λ s. gives_is Subject (subject s))

-- what the words name is read in their order
pub reads_in_order : (r : Reading) → IsReading (names_in r) (ReadsFor r)
reads_in_order (scan study) = one_study_is study scanned
reads_in_order (candidates study) = one_study_is study with_banks
reads_in_order (tolerance study) = one_study_is study within_tolerances
reads_in_order (outages study) = one_study_is study without_elements
reads_in_order (limits study spectrum None) = limits_is study spectrum None
reads_in_order (limits study spectrum (Some levels)) = limits_is study spectrum (Some levels)
reads_in_order (drill number) = gives_is Subject (drilled number)
reads_in_order (verify study report) =
    then_is Study Subject (study ∷ []) (report ∷ []) _ _ (study_is study) (λ s. then_is (List Row) Subject (report ∷ []) [] _ _ (report_is s report) (λ rows. gives_is Subject (verified s rows)))

-- ---- what is told
study_told : (name : List ℕ) → IsForetold (StudyBy TellsFile name) (StudyBy Reads name)
study_told name = file_foretold Study file.Study IsAccepted RefusesStudy name study_decided

spectrum_told : (study : Study) (name : List ℕ) → IsForetold (SpectrumBy TellsFile study name) (SpectrumBy Reads study name)
spectrum_told study name = file_foretold (List Injection) file.Spectrum (IsSpectrum study) (RefusesSpectrum study) name (spectrum_decided study)

levels_told : (study : Study) (name : Option (List ℕ)) → IsForetold (LevelsBy TellsFile study name) (LevelsBy Reads study name)
levels_told study None = gives_foretold (List Level) []
levels_told study (Some name) = file_foretold (List Level) file.Levels (AreLevels study) (RefusesLevels study) name (levels_decided study)

report_told : (study : Study) (name : List ℕ) → IsForetold (ReportBy TellsFile study name) (ReportBy Reads study name)
report_told study name = file_foretold (List Row) file.Report (IsRightReport study) (RefusesReport study) name (report_decided study)

one_study_told : (name : List ℕ) (subject : Study → Subject) → IsForetold (Then (StudyBy TellsFile name) (λ s. Gives (subject s))) (Then (StudyBy Reads name) (λ s. Gives (subject s)))
one_study_told name subject = then_foretold Study Subject (name ∷ []) _ _ _ _ (study_is name) (study_told name) (λ s. gives_foretold Subject (subject s))

pub reads_as_told : (r : Reading) → IsForetold (SubjectBy TellsFile r) (ReadsFor r)
reads_as_told (scan study) = one_study_told study scanned
reads_as_told (candidates study) = one_study_told study with_banks
reads_as_told (tolerance study) = one_study_told study within_tolerances
reads_as_told (outages study) = one_study_told study without_elements
reads_as_told (limits study spectrum levels) =
    then_foretold Study Subject (study ∷ []) _ _ _ _ (study_is study) (study_told study) (λ s.
    then_foretold (List Injection) Subject (spectrum ∷ []) _ _ _ _ (spectrum_is s spectrum) (spectrum_told s spectrum) (λ rows.
    then_foretold (List Level) Subject (name_of levels) _ _ _ _ (levels_are s levels) (levels_told s levels) (λ l. gives_foretold Subject (distorted s rows l))))
reads_as_told (drill number) = gives_foretold Subject (drilled number)
reads_as_told (verify study report) =
    then_foretold Study Subject (study ∷ []) _ _ _ _ (study_is study) (study_told study) (λ s.
    then_foretold (List Row) Subject (report ∷ []) _ _ _ _ (report_is s report) (report_told s report) (λ rows. gives_foretold Subject (verified s rows)))
