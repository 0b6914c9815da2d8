-- What the words of the command line ask for.
use Rattle.std.specs.Prelude.{ℕ, Bool, true, false, not, ◌&&◌, nat_eq, nat_le, if◌then◌else◌, List, [], ◌∷◌, length, codes, option_map, Option, Some, None}
use Rattle.std.specs.Char.{is_ascii_digit}
use Rattle.std.specs.List.{list_all}
use Rattle.std.specs.Str.{bytes_eq}
use Rattle.std.specs.Str.Parse.{digits_value}
use Rattle.harmscan_core.specs.declared.words.Command.{Command}
use Rattle.harmscan_core.specs.declared.words.Command.TheVariants as command

-- The scan of a study's file, with its candidate banks, within its tolerances or without each of its outages, the distortion that a spectrum's file causes in
-- it, beside a levels file or none, the drill of a number, or whether a report's file is right of a study's.
pub data Reading : Type 0 where
  scan : List ℕ → Reading
  candidates : List ℕ → Reading
  tolerance : List ℕ → Reading
  outages : List ℕ → Reading
  limits : List ℕ → List ℕ → Option (List ℕ) → Reading
  drill : ℕ → Reading
  verify : List ℕ → List ℕ → Reading

-- the same, where the names of the files are lent
abbrev pub seen : Command → Reading
seen (command.Scan study) = scan study.now
seen (command.Candidates study) = candidates study.now
seen (command.Tolerance study) = tolerance study.now
seen (command.Outages study) = outages study.now
seen (command.Limits study spectrum levels) = limits study.now spectrum.now (option_map (λ name. name.now) levels)
seen (command.Drill number) = drill number
seen (command.Verify study report) = verify study.now report.now

-- the names of the files, in the order of the words
abbrev pub names_in : Reading → List (List ℕ)
names_in (scan study) = study ∷ []
names_in (candidates study) = study ∷ []
names_in (tolerance study) = study ∷ []
names_in (outages study) = study ∷ []
names_in (limits study spectrum None) = study ∷ spectrum ∷ []
names_in (limits study spectrum (Some levels)) = study ∷ spectrum ∷ levels ∷ []
names_in (drill number) = []
names_in (verify study report) = study ∷ report ∷ []

-- a word that isn't empty and begins with no dash
abbrev pub is_file_word : List ℕ → Bool
is_file_word [] = false
is_file_word (b ∷ bs) = not (nat_eq b 45)

-- whether a word's first byte may begin a number: it is no 0, but where it is the only one
abbrev pub has_no_leading_zero : List ℕ → Bool
has_no_leading_zero [] = false
has_no_leading_zero (d ∷ []) = true
has_no_leading_zero (d ∷ e ∷ ds) = not (nat_eq d 48)

-- one to six digits with no leading zero
abbrev pub is_number_word : List ℕ → Bool
is_number_word word = has_no_leading_zero word && nat_le (length word) 6 && list_all is_ascii_digit word

-- the number that such a word writes
unfoldable pub number_in : List ℕ → Option ℕ
number_in word = if is_number_word word then Some (digits_value 10 word) else None

-- what a command with the name of one file asks for, of the forms `scan STUDY`, `candidates STUDY`, `tolerance STUDY` and `outages STUDY`
abbrev pub reading_of_one : List ℕ → List ℕ → Option Reading
reading_of_one first study =
    if bytes_eq first (codes "scan") then Some (scan study)
    else (if bytes_eq first (codes "candidates") then Some (candidates study)
    else (if bytes_eq first (codes "tolerance") then Some (tolerance study)
    else (if bytes_eq first (codes "outages") then Some (outages study) else None)))

-- what two words ask for, of one of these forms or of the form `drill N`
abbrev pub reading_of : List ℕ → List ℕ → Option Reading
reading_of first word =
    if bytes_eq first (codes "drill") then option_map drill (number_in word)
    else (if is_file_word word then reading_of_one first word else None)

-- what three words ask for, of the forms `limits STUDY SPECTRUM` and `verify STUDY REPORT`
abbrev pub reading_of_two : List ℕ → List ℕ → List ℕ → Option Reading
reading_of_two first study other =
    if is_file_word study && is_file_word other
    then (if bytes_eq first (codes "limits") then Some (limits study other None) else (if bytes_eq first (codes "verify") then Some (verify study other) else None))
    else None

-- what four words ask for, of the form `limits STUDY SPECTRUM LEVELS`
abbrev pub reading_of_three : List ℕ → List ℕ → List ℕ → List ℕ → Option Reading
reading_of_three first study spectrum levels =
    if bytes_eq first (codes "limits") && is_file_word study && is_file_word spectrum && is_file_word levels then Some (limits study spectrum (Some levels)) else None

-- what the words ask for, where they are of one of these forms
abbrev pub reading : List (List ℕ) → Option Reading
reading [] = None
reading (first ∷ []) = None
reading (first ∷ word ∷ []) = reading_of first word
reading (first ∷ study ∷ other ∷ []) = reading_of_two first study other
reading (first ∷ study ∷ spectrum ∷ levels ∷ []) = reading_of_three first study spectrum levels
reading (first ∷ study ∷ spectrum ∷ levels ∷ fifth ∷ more) = None
