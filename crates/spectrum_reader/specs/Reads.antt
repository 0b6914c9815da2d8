-- What the read of a header answers.
use Rattle.std.specs.Prelude.{◌≡◌, ℕ, Bool, List, Some, None}
use Rattle.std.specs.Bool.{MatchBool}
use Rattle.std.specs.Borrow.{Bor}
use Rattle.csv.specs.declared.reader.Reader.{Reader}
use Rattle.spectrum_reader.specs.Records.{IsReading, left_of}
use Rattle.spectrum_reader.specs.Rows.{after_header}

-- The header stands first, and the reader has the records after it to come; or it does not stand there.
abbrev pub ReadsHeader : Reader (Bor (List ℕ)) → Reader (Bor (List ℕ)) → List (List ℕ) → Bool → Type 0
ReadsHeader before after names found = MatchBool found (IsReading after × (after_header names (left_of before) ≡ Some (left_of after))) (after_header names (left_of before) ≡ None)
