-- A file of CSV that is read row by row: its rows, or its first refusal.
use Rattle.std.specs.Prelude.{◌≡◌, ◌≢◌, ℕ, Bool, if◌then◌else◌, List, [], ◌∷◌, ◌++◌, Option, Some, None, Result, Ok, Err}
use Rattle.std.specs.Cmp.Lexicographic.{pointwise}
use Rattle.std.specs.Str.{bytes_eq}
use Rattle.spectrum_reader.specs.Records.{Fields}

-- what comes of a value that is there, or why there is none
abbrev pub required : {A B F : Type 0} → Option A → F → (A → Result B F) → Result B F
required None fault more = Err fault
required (Some value) fault more = more value

-- what comes after a value, or its fault
abbrev pub after : {A B F : Type 0} → Result A F → (A → Result B F) → Result B F
after (Err fault) more = Err fault
after (Ok value) more = more value

-- The rows of records, one after another: each is read beside the rows before it. The first refusal refuses all.
abbrev pub rows_from : {A F : Type 0} → (List A → Fields → Result A F) → List A → List Fields → Result (List A) F
rows_from row earlier [] = Ok earlier
rows_from row earlier (fields ∷ rest) = after (row earlier fields) (λ read. rows_from row (earlier ++ read ∷ []) rest)

-- a record whose fields are these names
abbrev pub is_header : List (List ℕ) → Fields → Bool
is_header names fields = pointwise bytes_eq names fields

-- the records after the header, which is the first
abbrev pub after_header : List (List ℕ) → List Fields → Option (List Fields)
after_header names [] = None
after_header names (first ∷ rest) = if is_header names first then Some rest else None

-- the rows of a file
abbrev pub file_of : {A F : Type 0} → List (List ℕ) → F → (List A → Fields → Result A F) → List Fields → Result (List A) F
file_of names no_header row records = required (after_header names records) no_header (λ rest. rows_from row [] rest)

-- A reader that takes memory answers what is said of a file, unless memory runs out.
abbrev pub ReadsInMemory : {A B F : Type 0} → F → (A → B) → Result A F → Result B F → Type 0
ReadsInMemory no_memory seen (Ok x) said = said ≡ Ok (seen x)
ReadsInMemory no_memory seen (Err fault) said = fault ≢ no_memory → said ≡ Err fault
