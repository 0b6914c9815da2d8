-- Which bytes are a report, and the first line at which they aren't one.
use Rattle.std.specs.Prelude.{◌≡◌, ℕ, ◌+◌, ◌<◌, ◌^◌, ℤ, pos, ◌<ℤ◌, unsigned_abs, IsTrue, List, [], ◌∷◌, ◌++◌, length, Option, Some, None}
use Rattle.study_model.specs.NameText.{is_name}
use Rattle.scan_report.specs.Rows.{fields_of, row_text, IsOhms}
use Rattle.scan_report.specs.declared.fields.Field.{Field}
use Rattle.scan_report.specs.declared.fields.Field.TheVariants as field
use Rattle.scan_report.specs.declared.rows.Row.{Row}
use Rattle.scan_report.specs.declared.rows.Row.TheVariants.{Scan, BoxLine, Region, Summary, End}
use Rattle.scan_report.specs.declared.reading.ReportFault.{ReportFault}
use Rattle.scan_report.specs.declared.reading.ReportFault.TheVariants.{BadRow, NoMemory}

-- the text of rows, one after another
abbrev pub text_of : List Row → List ℕ
text_of [] = []
text_of (r ∷ rs) = row_text r ++ text_of rs

-- where a reader stands: before a scan or the last row, within a scan, or after the last row
pub data Stage : Type 0 where
  between : Stage
  within : Stage
  ended : Stage

-- a row that may stand there
abbrev pub MayStand : Stage → Row → Type 0
MayStand between (Scan name bus network from to threshold method) = Unit {0}
MayStand between (End status) = Unit {0}
MayStand within (BoxLine number lo hi word at micro_ohms) = Unit {0}
MayStand within (Region number lo hi hertz_lo hertz_hi peaks undecided at micro_ohms) = Unit {0}
MayStand within (Summary name boxes cleared peaks undecided regions) = Unit {0}
MayStand _ _ = ⊥

abbrev pub stage_after : Row → Stage
stage_after (Summary name boxes cleared peaks undecided regions) = between
stage_after (End status) = ended
stage_after _ = within

-- a number of 32 bits, or none
abbrev pub IsShort : Option ℕ → Type 0
IsShort None = Unit {0}
IsShort (Some n) = n < 2 ^ 32

-- a number of 64 bits, or none
abbrev pub IsLong : Option ℕ → Type 0
IsLong None = Unit {0}
IsLong (Some n) = n < 2 ^ 64

-- a threshold or a size above 0 and below a million, or none
abbrev pub IsThreshold : Option ℤ → Type 0
IsThreshold None = Unit {0}
IsThreshold (Some value) = (pos 0 <ℤ value) × (unsigned_abs value < 10 ^ 12)

-- a field in the range of its kind
abbrev pub IsField : Field → Type 0
IsField (field.Name name) = IsTrue (is_name name)
IsField (field.Number number) = number < 2 ^ 32
IsField (field.Order order) = order < 2 ^ 32
IsField (field.Hertz hertz) = hertz < 2 ^ 64
IsField (field.Threshold ohms) = IsThreshold ohms
IsField (field.At order) = IsShort order
IsField (field.Bound micro_ohms) = IsOhms micro_ohms
IsField (field.Network word) = Unit {0}
IsField (field.Found word) = Unit {0}
IsField (field.Method method) = Unit {0}
IsField (field.Phase word) = Unit {0}
IsField (field.Percent percent) = IsLong percent
IsField (field.Verdict verdict) = Unit {0}
IsField (field.Size size) = IsThreshold size
IsField (field.Floating floating) = Unit {0}

abbrev pub AreFields : List Field → Type 0
AreFields [] = Unit {0}
AreFields (f ∷ fs) = IsField f × AreFields fs

-- a row each of whose fields is in the range of its kind
abbrev pub IsRow : Row → Type 0
IsRow r = AreFields (fields_of r)

-- rows each of which may stand where the one before it leads
pub data IsInOrder : Stage → List Row → Stage → Type 0 where
  no_row : (s : Stage) → IsInOrder s [] s
  one_more : (s t : Stage) (r : Row) (rs : List Row) → MayStand s r → IsRow r → IsInOrder (stage_after r) rs t → IsInOrder s (r ∷ rs) t

-- the bytes are the text of these rows, in order up to the last row of a report
pub record IsReport (bytes : List ℕ) (rows : List Row) : Type 0 where
  pub order : IsInOrder between rows ended
  pub text : bytes ≡ text_of rows

-- The lines before this one are rows in order, and it is none that may stand there, or it is past the last line and the report has no last row.
pub record IsBadAt (bytes : List ℕ) (line : ℕ) : Type 0 where
  pub rows : List Row
  pub stage : Stage
  pub rest : List ℕ
  pub order : IsInOrder between rows stage
  pub text : bytes ≡ text_of rows ++ rest
  pub number : line ≡ length rows + 1
  pub unfinished : ¬ ((stage ≡ ended) × (rest ≡ []))
  pub none : (r : Row) (after : List ℕ) → MayStand stage r → IsRow r → ¬ (rest ≡ row_text r ++ after)

-- the fault is a line's, and that line is the first bad one
abbrev pub BadLine : List ℕ → ReportFault → Type 0
BadLine bytes (BadRow line) = IsBadAt bytes line
BadLine bytes NoMemory = ⊥

-- bytes that are a report have no bad line
abbrev pub NoReportIsBad : Type 0
NoReportIsBad = (bytes : List ℕ) (rows : List Row) (line : ℕ) → IsReport bytes rows → ¬ (IsBadAt bytes line)
