-- What a run does to the shelf and the sinks, for each outcome.
use Rattle.std.specs.Prelude.{◌≡◌, ◌≢◌, ◌⊎◌, ℕ, List, ◌++◌, take, Option, Some, None, Result, Ok, Err}
use Rattle.harm_io.specs.Shelves.{ShelfState}
use Rattle.harm_io.specs.Sinks.{SinkState, took, FailsToWrite, LacksMemory, Puts}
use Rattle.harm_io.specs.declared.shelf.FetchFault.{FetchFault}
use Rattle.harm_io.specs.declared.shelf.FetchFault.TheVariants as fetch
use Rattle.harm_io.specs.declared.sink.PutFault.{PutFault}
use Rattle.harm_io.specs.declared.sink.PutFault.TheVariants as put
use Rattle.study_model.specs.declared.records.Study.{Study}
use Rattle.study_model.specs.declared.fault.StudyFault.TheVariants as fault
use Rattle.study_networks.specs.Networks.{IsNetworksRefusal}
use Rattle.harmscan_core.specs.Accepted.{RefusedFor}
use Rattle.harmscan_core.specs.Lines.{line_at}
use Rattle.harmscan_core.specs.Subject.{Subject, text_for, status_for, Claims, ReadsFor}
use Rattle.harmscan_core.specs.Words.{Reading, scan, candidates, tolerance, outages, limits, drill, verify, names_in}
use Rattle.harmscan_core.specs.declared.files.File.{File}
use Rattle.harmscan_core.specs.declared.files.Refusal.{Refusal}
use Rattle.harmscan_core.specs.declared.files.Refusal.TheVariants as refusal
use Rattle.harmscan_core.specs.declared.outcome.Outcome.{Outcome}
use Rattle.harmscan_core.specs.declared.outcome.Outcome.TheVariants as outcome

-- how a run ends at a fetch that gave no file
abbrev pub outcome_of_fetch : File → FetchFault → Outcome
outcome_of_fetch file fetch.Failed = outcome.ReadFailed file
outcome_of_fetch file (fetch.TooLarge taken) = outcome.TooLarge file
outcome_of_fetch file fetch.NoMemory = outcome.NoMemory

-- how a run ends at a put that didn't take its line
abbrev pub outcome_of_put : PutFault → Outcome
outcome_of_put put.Failed = outcome.WriteFailed
outcome_of_put put.NoMemory = outcome.NoMemory

-- how a run ends at a fault of a file or of what it is: each but want of memory is its refusal
abbrev pub EndsAt : {F : Type 0} → F → (F → Refusal) → F → Outcome → Type 0
EndsAt no_memory refused f outcome.NoMemory = f ≡ no_memory
EndsAt no_memory refused f (outcome.Refused r) = (f ≢ no_memory) × (r ≡ refused f)
EndsAt no_memory refused f _ = ⊥

-- how a run ends whose study's networks are refused, or that lacks the memory to build them
abbrev pub RefusesNetworks : Study → Outcome → Type 0
RefusesNetworks study outcome.NoMemory = Unit {0}
RefusesNetworks study (outcome.Refused r) = RefusedFor fault.NoMemory refusal.Study (IsNetworksRefusal study) r
RefusesNetworks study _ = ⊥

-- the report of a subject was written whole: all that it claims holds
pub record IsReported (subject : Subject) (status : ℕ) (out out' : SinkState) : Type 0 where
  pub status_is : status ≡ status_for subject
  pub written : out' ≡ took out (text_for subject)
  pub claim : Claims subject

-- what the writing of a report ends with and leaves
abbrev pub Reports : Subject → SinkState → SinkState → Outcome → Type 0
Reports subject out out' (outcome.Written s) = IsReported subject s out out'
Reports subject out out' outcome.WriteFailed = FailsToWrite (text_for subject) out out'
Reports subject out out' outcome.NoMemory = (out' ≡ out) ⊎ LacksMemory (text_for subject) out out'
Reports subject out out' outcome.WordsRefused = ⊥
Reports subject out out' (outcome.ReadFailed file) = ⊥
Reports subject out out' (outcome.TooLarge file) = ⊥
Reports subject out out' (outcome.Refused r) = ⊥

-- What a run does whose words have a reading: it ends at its files, and `out` stays as it was, or reports of what they are.
pub data Happens (r : Reading) (shelf shelf' : ShelfState) (out out' : SinkState) (o : Outcome) : Type 0 where
  ends : ReadsFor r shelf shelf' (Err o) → out' ≡ out → Happens r shelf shelf' out out' o
  reports : (subject : Subject) → ReadsFor r shelf shelf' (Ok subject) → Reports subject out out' o → Happens r shelf shelf' out out' o

-- what a run does for any words
abbrev pub HappensFor : Option Reading → ShelfState → ShelfState → SinkState → SinkState → Outcome → Type 0
HappensFor None shelf shelf' out out' o = (o ≡ outcome.WordsRefused) × (shelf' ≡ shelf) × (out' ≡ out)
HappensFor (Some r) shelf shelf' out out' o = Happens r shelf shelf' out out' o

-- the status for an outcome
abbrev pub status_at : Outcome → ℕ
status_at outcome.WordsRefused = 1
status_at (outcome.ReadFailed file) = 5
status_at (outcome.TooLarge file) = 2
status_at (outcome.Refused r) = 2
status_at outcome.WriteFailed = 6
status_at outcome.NoMemory = 7
status_at (outcome.Written s) = s

-- the line was put once, or nothing where there is none
abbrev pub Says : Option (List ℕ) → SinkState → SinkState → Type 0
Says None before now = now ≡ before
Says (Some line) before now = (r : Result (Unit {0}) PutFault) × Puts line before now r

-- The whole of a run: one outcome, its status, and its line.
pub record Runs (words : Option Reading) (shelf shelf' : ShelfState) (out out' err err' : SinkState) (status : ℕ) : Type 0 where
  pub answer : Outcome
  pub shows : status ≡ status_at answer
  pub happens : HappensFor words shelf shelf' out out' answer
  pub says : Says (line_at answer) err err'

-- a run that ends before it has words: the shelf and `out` stay as they were
pub record EndsAtOnce (answer : Outcome) (shelf shelf' : ShelfState) (out out' err err' : SinkState) (status : ℕ) : Type 0 where
  pub shows : status ≡ status_at answer
  pub shelf_stays : shelf' ≡ shelf
  pub out_stays : out' ≡ out
  pub says : Says (line_at answer) err err'

-- the names asked for are those before, and then the first so many of these; the files stay
pub record AsksInOrder (names : List (List ℕ)) (before now : ShelfState) : Type 0 where
  pub count : ℕ
  pub asked : now.asked ≡ before.asked ++ take count names
  pub file : now.file ≡ before.file

abbrev pub Asks : Option Reading → ShelfState → ShelfState → Type 0
Asks None before now = now ≡ before
Asks (Some (drill number)) before now = now ≡ before
Asks (Some (scan study)) before now = AsksInOrder (names_in (scan study)) before now
Asks (Some (candidates study)) before now = AsksInOrder (names_in (candidates study)) before now
Asks (Some (tolerance study)) before now = AsksInOrder (names_in (tolerance study)) before now
Asks (Some (outages study)) before now = AsksInOrder (names_in (outages study)) before now
Asks (Some (limits study spectrum levels)) before now = AsksInOrder (names_in (limits study spectrum levels)) before now
Asks (Some (verify study report)) before now = AsksInOrder (names_in (verify study report)) before now

-- a status that says that the whole report was written
abbrev pub IsWritten : ℕ → Type 0
IsWritten status = (status ≡ 0) ⊎ (status ≡ 3) ⊎ (status ≡ 4)

-- a status with which nothing was put: words or a file refused, or a file that can't be read
abbrev pub IsRefusal : ℕ → Type 0
IsRefusal status = (status ≡ 1) ⊎ (status ≡ 2) ⊎ (status ≡ 5)

-- every file that the words name was asked for, in order, and the report of what they are was written whole, with this status; all that it claims holds
pub record WritesWhole (r : Reading) (shelf shelf' : ShelfState) (out out' : SinkState) (status : ℕ) : Type 0 where
  pub subject : Subject
  pub read : ReadsFor r shelf shelf' (Ok subject)
  pub asked : shelf'.asked ≡ shelf.asked ++ names_in r
  pub reported : IsReported subject status out out'

abbrev pub WritesReport : Option Reading → ShelfState → ShelfState → SinkState → SinkState → ℕ → Type 0
WritesReport None shelf shelf' out out' status = ⊥
WritesReport (Some r) shelf shelf' out out' status = WritesWhole r shelf shelf' out out' status

-- a front of the report of what the words name was taken
pub record StopsReport (r : Reading) (shelf shelf' : ShelfState) (out out' : SinkState) : Type 0 where
  pub subject : Subject
  pub read : ReadsFor r shelf shelf' (Ok subject)
  pub front : FailsToWrite (text_for subject) out out'

abbrev pub StopsWithin : Option Reading → ShelfState → ShelfState → SinkState → SinkState → Type 0
StopsWithin None shelf shelf' out out' = ⊥
StopsWithin (Some r) shelf shelf' out out' = StopsReport r shelf shelf' out out'

-- refused with this outcome's line, or want of memory
abbrev pub RefusesFor : Outcome → ℕ → SinkState → SinkState → SinkState → SinkState → Type 0
RefusesFor o status out out' err err' = (status ≡ 7) ⊎ ((status ≡ 2) × (out' ≡ out) × Says (line_at o) err err')

-- the whole report of a subject, and its status, or want of memory
abbrev pub IsComplete : ℕ → SinkState → SinkState → Subject → Type 0
IsComplete status out out' subject = (status ≡ 7) ⊎ IsReported subject status out out'
