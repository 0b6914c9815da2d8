-- The text of a row, `row_text`. A row is a word and a list of fields.
use Rattle.std.specs.Prelude.{◌≡◌, ℕ, ℤ, pos, negsuc, ◌^◌, ◌≤◌, ◌<ℤ◌, List, [], ◌∷◌, ◌++◌, codes, Option, Some, None}
use Rattle.scan_report.specs.Fields.{fields_text}
use Rattle.scan_report.specs.declared.fields.Field.{Field}
use Rattle.scan_report.specs.declared.fields.Field.TheVariants as field
use Rattle.scan_report.specs.declared.rows.Row.{Row}
use Rattle.scan_report.specs.declared.rows.Row.TheVariants.{Scan, BoxLine, Region, Summary, Drill, Voltage, Thd, Current, Tdd, LimitsSummary, Candidate, Size, First, Verified, Tolerance, Outage, Case, Envelope, End}

-- the word of each row; the counts of a report on distortion stand under the name that no scan may have
abbrev pub word_of : Row → List ℕ
word_of (Scan name bus network from to threshold method) = codes "scan"
word_of (BoxLine number lo hi word at micro_ohms) = codes "box"
word_of (Region number lo hi hertz_lo hertz_hi peaks undecided at micro_ohms) = codes "region"
word_of (Summary name boxes cleared peaks undecided regions) = codes "summary"
word_of (Drill number nodes) = codes "drill"
word_of (Voltage bus phase order lo hi limit verdict) = codes "voltage"
word_of (Thd bus phase lo hi limit verdict) = codes "thd"
word_of (Current point phase order lo hi limit verdict) = codes "current"
word_of (Tdd point phase lo hi limit verdict) = codes "tdd"
word_of (LimitsSummary passes fails undecided) = codes "summary,limits"
word_of (Candidate name bus from to threshold) = codes "candidate"
word_of (Size number size cleared peaks undecided) = codes "size"
word_of (First name size) = codes "first"
word_of (Verified scans boxes) = codes "verified"
word_of (Tolerance entries) = codes "tolerance"
word_of (Outage number element floating) = codes "outage"
word_of (Case outage name boxes cleared peaks undecided at micro_ohms) = codes "case"
word_of (Envelope name cases cleared peaks undecided) = codes "envelope"
word_of (End status) = codes "end"

-- the fields of each row, in their order
abbrev pub fields_of : Row → List Field
fields_of (Scan name bus network from to threshold method) =
    field.Name name ∷ field.Name bus ∷ field.Network network ∷ field.Order from ∷ field.Order to ∷ field.Threshold threshold ∷ field.Method method ∷ []
fields_of (BoxLine number lo hi word at micro_ohms) =
    field.Number number ∷ field.Order lo ∷ field.Order hi ∷ field.Found word ∷ field.At at ∷ field.Bound micro_ohms ∷ []
fields_of (Region number lo hi hertz_lo hertz_hi peaks undecided at micro_ohms) =
    field.Number number ∷ field.Order lo ∷ field.Order hi ∷ field.Hertz hertz_lo ∷ field.Hertz hertz_hi ∷ field.Number peaks ∷ field.Number undecided
    ∷ field.At at ∷ field.Bound micro_ohms ∷ []
fields_of (Summary name boxes cleared peaks undecided regions) =
    field.Name name ∷ field.Number boxes ∷ field.Number cleared ∷ field.Number peaks ∷ field.Number undecided ∷ field.Number regions ∷ []
fields_of (Drill number nodes) = field.Number number ∷ field.Number nodes ∷ []
fields_of (Voltage bus phase order lo hi limit verdict) =
    field.Name bus ∷ field.Phase phase ∷ field.Number order ∷ field.Percent lo ∷ field.Percent hi ∷ field.Percent (Some limit) ∷ field.Verdict verdict ∷ []
fields_of (Thd bus phase lo hi limit verdict) =
    field.Name bus ∷ field.Phase phase ∷ field.Percent lo ∷ field.Percent hi ∷ field.Percent (Some limit) ∷ field.Verdict verdict ∷ []
fields_of (Current point phase order lo hi limit verdict) =
    field.Name point ∷ field.Phase phase ∷ field.Number order ∷ field.Percent lo ∷ field.Percent hi ∷ field.Percent (Some limit) ∷ field.Verdict verdict ∷ []
fields_of (Tdd point phase lo hi limit verdict) =
    field.Name point ∷ field.Phase phase ∷ field.Percent lo ∷ field.Percent hi ∷ field.Percent (Some limit) ∷ field.Verdict verdict ∷ []
fields_of (LimitsSummary passes fails undecided) = field.Number passes ∷ field.Number fails ∷ field.Number undecided ∷ []
fields_of (Candidate name bus from to threshold) =
    field.Name name ∷ field.Name bus ∷ field.Order from ∷ field.Order to ∷ field.Threshold threshold ∷ []
fields_of (Size number size cleared peaks undecided) =
    field.Number number ∷ field.Size (Some size) ∷ field.Number cleared ∷ field.Number peaks ∷ field.Number undecided ∷ []
fields_of (First name size) = field.Name name ∷ field.Size size ∷ []
fields_of (Verified scans boxes) = field.Number scans ∷ field.Number boxes ∷ []
fields_of (Tolerance entries) = field.Number entries ∷ []
fields_of (Outage number element floating) = field.Number number ∷ field.Name element ∷ field.Floating floating ∷ []
fields_of (Case outage name boxes cleared peaks undecided at micro_ohms) =
    field.Number outage ∷ field.Name name ∷ field.Number boxes ∷ field.Number cleared ∷ field.Number peaks ∷ field.Number undecided ∷ field.At at ∷ field.Bound micro_ohms ∷ []
fields_of (Envelope name cases cleared peaks undecided) =
    field.Name name ∷ field.Number cases ∷ field.Number cleared ∷ field.Number peaks ∷ field.Number undecided ∷ []
fields_of (End status) = field.Number status ∷ []

-- the line of a row: its word, each of its fields after a comma, and a line feed
abbrev pub row_text : Row → List ℕ
row_text r = word_of r ++ fields_text (fields_of r)

-- ohms from 0 to 2 ^ 120, or none
abbrev pub IsOhms : Option ℤ → Type 0
IsOhms None = Unit {0}
IsOhms (Some (pos n)) = n ≤ 2 ^ 120
IsOhms (Some (negsuc n)) = ⊥

-- a threshold or a size above 0, or none
abbrev pub IsAboveZero : Option ℤ → Type 0
IsAboveZero None = Unit {0}
IsAboveZero (Some value) = pos 0 <ℤ value

-- a field that has a text: ohms from 0 to 2 ^ 120, and a threshold or a size above 0
abbrev pub HasFieldText : Field → Type 0
HasFieldText (field.Bound micro_ohms) = IsOhms micro_ohms
HasFieldText (field.Threshold ohms) = IsAboveZero ohms
HasFieldText (field.Size size) = IsAboveZero size
HasFieldText _ = Unit {0}

abbrev pub HaveText : List Field → Type 0
HaveText [] = Unit {0}
HaveText (f ∷ fs) = HasFieldText f × HaveText fs

-- a row with this word, each of whose fields has a text
abbrev pub IsRowOf : List ℕ → Row → Type 0
IsRowOf word r = (word_of r ≡ word) × HaveText (fields_of r)
