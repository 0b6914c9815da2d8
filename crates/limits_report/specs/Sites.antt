-- The nodes of which a report on distortion has rows, with what is said of each.
use Rattle.std.specs.Prelude.{ℕ, ◌+◌, List, [], ◌∷◌, ◌++◌}
use Rattle.std.specs.List.{flat_map}
use Rattle.scan_report.specs.declared.rows.PhaseWord.{PhaseWord}
use Rattle.scan_report.specs.declared.rows.PhaseWord.TheVariants.{S, A, B, C}
use Rattle.harmonic_injection.specs.Injections.{node_of}
use Rattle.study_model.specs.Lawful.{IsLawfulPcc}
use Rattle.study_model.specs.declared.records.Bus.{Bus}
use Rattle.study_model.specs.declared.records.Pcc.{Pcc}
use Rattle.study_model.specs.declared.records.Study.{Study}
use Rattle.study_model.specs.declared.words.StudyModel.{StudyModel}
use Rattle.study_model.specs.declared.words.StudyModel.TheVariants as study_model
use Rattle.limits_report.specs.declared.site.Site.{Site}
use Rattle.limits_report.specs.declared.site.Subject.{Subject}
use Rattle.limits_report.specs.declared.site.Subject.TheVariants.{Voltage, Current}

-- the number of a phase; that of a sequence network is 0
abbrev pub number_of : PhaseWord → ℕ
number_of S = 0
number_of A = 0
number_of B = 1
number_of C = 2

-- the node of a bus and a phase, by its word
abbrev pub node_in : StudyModel → ℕ → PhaseWord → ℕ
node_in model bus word = node_of model bus (number_of word)

-- what is said at the node of a bus and a phase
abbrev pub site_of : StudyModel → ℕ → Subject → PhaseWord → Site
site_of model bus subject word = record { subject = subject; phase = word; node = node_in model bus word }

-- and at each node of a bus: one in the sequence model, else one for each phase
abbrev pub sites_at : StudyModel → ℕ → Subject → List Site
sites_at study_model.Sequence bus subject = site_of study_model.Sequence bus subject S ∷ []
sites_at study_model.Phases bus subject = site_of study_model.Phases bus subject A ∷ site_of study_model.Phases bus subject B ∷ site_of study_model.Phases bus subject C ∷ []

-- the voltages of buses that are numbered from here
abbrev pub bus_sites : StudyModel → ℕ → List Bus → List Site
bus_sites model number [] = []
bus_sites model number (bus ∷ buses) = sites_at model number (Voltage number bus) ++ bus_sites model (number + 1) buses

-- the currents of a point of common coupling
abbrev pub point_sites : StudyModel → Pcc → List Site
point_sites model point = sites_at model point.bus (Current point)

-- all of a study: the voltages of its buses, then the currents of its points
unfoldable pub sites_of : Study → List Site
sites_of study = bus_sites study.model 0 study.buses ++ flat_map (point_sites study.model) study.points

-- a point of common coupling is one that the study may have
abbrev pub IsLawfulSubject : Study → Subject → Type 0
IsLawfulSubject study (Voltage number bus) = Unit {0}
IsLawfulSubject study (Current point) = IsLawfulPcc study point
