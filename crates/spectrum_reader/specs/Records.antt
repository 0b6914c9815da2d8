-- The records of a file, as CSV defines them: no header is taken, and no field is trimmed.
use Rattle.std.specs.Prelude.{◌≡◌, ℕ, ◌+◌, ◌∷◌, Bool, List, [], length, Option, Some, None, IsSome}
use Rattle.std.specs.Bool.{MatchBool}
use Rattle.std.specs.Borrow.{Bor}
use Rattle.csv.specs.Reading.{Ready, default_config, reader_config, reader_state, reader_trim, records, records_from, source_of, strip_bom}
use Rattle.csv.specs.declared.parser.State.{State}
use Rattle.csv.specs.declared.reader.Reader.{Reader}
use Rattle.csv.specs.declared.reader.Trim.TheVariants as trim

-- a record: its fields, each a text of bytes
abbrev pub Fields : Type 0
Fields = List (List ℕ)

-- all records of a file, after a byte order mark; an empty line is none
unfoldable pub records_of : List ℕ → List Fields
records_of bytes = records default_config (strip_bom bytes)

-- the records of a text that is read from a state of the machine on
unfoldable pub records_after : State → List ℕ → List Fields
records_after state text = records_from default_config (length text + 1) state text

-- the same where the text is known
abbrev pub records_left : State → Option (List ℕ) → List Fields
records_left state None = []
records_left state (Some text) = records_after state text

-- the records that a reader has still to give
unfoldable pub left_of : Reader (Bor (List ℕ)) → List Fields
left_of reader = records_left (reader_state reader) (source_of (λ s. Some s.now) reader)

-- A reader of all records of a text as they stand, which has not failed.
pub record IsReading (reader : Reader (Bor (List ℕ))) : Type 0 where
  pub config : reader_config reader ≡ default_config
  pub trim : reader_trim reader ≡ trim.None
  pub ready : Ready reader
  pub source : IsSome (source_of (λ s. Some s.now) reader)

-- A read gives the first of the records to come and leaves the others, or there is none.
abbrev pub ReadsFirst : Reader (Bor (List ℕ)) → Reader (Bor (List ℕ)) → Fields → Bool → Type 0
ReadsFirst before after fields found = MatchBool found (IsReading after × (left_of before ≡ fields ∷ left_of after)) (left_of before ≡ [])
