-- Checks of the value at a key of an entry, each with the value that it stands for.
use Rattle.std.specs.Prelude.{◌≡◌, ◌≢◌, ℕ, ℤ, pos, negsuc, unsigned_abs, int_le, ◌+◌, Bool, true, false, not, ◌&&◌, ◌||◌, nat_eq, if◌then◌else◌, List, [], ◌∷◌, Option, Some, None, Result, Ok, Err, option_map, unwrap_or, is_some}
use Rattle.std.specs.Ordering.{int_eq}
use Rattle.std.specs.Result.{result_ok}
use Rattle.std.specs.Str.{bytes_eq}
use Rattle.toml.specs.Data.{Data, get, string, integer, float, boolean, datetime, array, table, Members, no_members, member}
use Rattle.fixed_decimal.specs.Parsed.{decimal_of, whole_decimal_of}
use Rattle.study_model.specs.NameText.{is_name}
use Rattle.study_model.specs.Words.{key_text}
use Rattle.study_model.specs.declared.fault.Place.{Place}
use Rattle.study_model.specs.declared.fault.Section.{Section}
use Rattle.study_model.specs.declared.fault.Key.{Key}
use Rattle.study_model.specs.declared.fault.Key.TheVariants as key
use Rattle.study_model.specs.declared.fault.StudyFault.{StudyFault}
use Rattle.study_model.specs.declared.fault.StudyFault.TheVariants.{VersionUnknown, MissingKey, UnknownKey, WrongKind, BareDecimal, BadDecimal, OutOfRange, BadName, DuplicateName, UnknownBus, NoMemory}
use Rattle.study_model.specs.declared.limits.TheConstants.{MAX_SECTIONS}
use Rattle.study_model.specs.declared.range.Range.{Range}
use Rattle.study_model.specs.Rules.{AreNotBothZero}
use Rattle.study_model.specs.declared.records.Bus.{Bus}

-- the first fault of a list of checks
abbrev pub first_fault : List (Option StudyFault) → Option StudyFault
first_fault [] = None
first_fault (None ∷ checks) = first_fault checks
first_fault (Some fault ∷ checks) = Some fault

-- A reading answers the value where its check finds no fault, and else that fault.
abbrev pub Reads : {A : Type 0} → Result A StudyFault → Option StudyFault → A → Type 0
Reads (Ok x) check value = (check ≡ None) × (x ≡ value)
Reads (Err fault) check value = check ≡ Some fault

-- the same where the answer is seen by a function
abbrev pub ReadsBy : {A B : Type 0} → (A → B) → Result A StudyFault → Option StudyFault → B → Type 0
ReadsBy seen (Ok x) check value = (check ≡ None) × (seen x ≡ value)
ReadsBy seen (Err fault) check value = check ≡ Some fault

-- a reading that takes memory answers so too, unless memory runs out
abbrev pub ReadsInMemory : {A : Type 0} → Result A StudyFault → Option StudyFault → A → Type 0
ReadsInMemory (Ok x) check value = (check ≡ None) × (x ≡ value)
ReadsInMemory (Err fault) check value = fault ≢ NoMemory → check ≡ Some fault

-- a place in a study
abbrev pub place_of : Section → ℕ → Key → Place
place_of section entry key = record { section = section; entry = entry; key = key }

-- a key of the entry at a place
abbrev pub key_of : Place → Key → Place
key_of place key = record { section = place.section; entry = place.entry; key = key }

-- a fault where a test fails
abbrev pub unless : Bool → StudyFault → Option StudyFault
unless test fault = if test then None else Some fault

-- the value at a key of an entry
abbrev pub at : Key → Data → Option Data
at key entry = get (key_text key) entry

-- whether an entry has a key
abbrev pub has : Key → Data → Bool
has key entry = is_some (at key entry)

-- a key that is there belongs there
unfoldable pub stray_fault : Place → Key → Bool → Data → Option StudyFault
stray_fault place key belongs entry = unless (belongs || not (has key entry)) (UnknownKey (key_of place key))

-- ---- decimals
-- a decimal in its range
abbrev pub range_fault : Place → Range → Option ℤ → Option StudyFault
range_fault place range None = Some (BadDecimal place)
range_fault place range (Some d) = unless (int_le range.low d && int_le d range.high) (OutOfRange place)

-- a decimal is a quoted text or a bare whole number
abbrev pub decimal_check : Place → Range → Data → Option StudyFault
decimal_check place range (string text) = range_fault place range (result_ok (decimal_of text))
decimal_check place range (integer n) = range_fault place range (result_ok (whole_decimal_of n))
decimal_check place range (float x) = Some (BareDecimal place)
decimal_check place range (boolean b) = Some (WrongKind place)
decimal_check place range (datetime t) = Some (WrongKind place)
decimal_check place range (array ds) = Some (WrongKind place)
decimal_check place range (table ms) = Some (WrongKind place)

-- the millionths of a decimal, and 0 where there is none
abbrev pub millionths_of : Option ℤ → ℤ
millionths_of decimal = unwrap_or decimal (pos 0)

abbrev pub decimal_in : Data → ℤ
decimal_in (string text) = millionths_of (result_ok (decimal_of text))
decimal_in (integer n) = millionths_of (result_ok (whole_decimal_of n))
decimal_in _ = pos 0

abbrev pub decimal_found : Place → Bool → Range → Option Data → Option StudyFault
decimal_found place needed range None = unless (not needed) (MissingKey place)
decimal_found place needed range (Some value) = decimal_check place range value

-- a decimal in its range, which may be absent unless it is needed
unfoldable pub optional_fault : Place → Key → Bool → Range → Data → Option StudyFault
optional_fault place key needed range entry = decimal_found (key_of place key) needed range (at key entry)

-- a decimal in its range, which has to stand there
unfoldable pub decimal_fault : Place → Key → Range → Data → Option StudyFault
decimal_fault place key range entry = decimal_found (key_of place key) true range (at key entry)

-- a decimal in its range, which may be absent
unfoldable pub default_fault : Place → Key → Range → Data → Option StudyFault
default_fault place key range entry = decimal_found (key_of place key) false range (at key entry)

-- the decimal at a key, where there is one
unfoldable pub option_value : Key → Data → Option ℤ
option_value key entry = option_map decimal_in (at key entry)

-- the decimal at a key, or its default
unfoldable pub decimal_or : ℤ → Key → Data → ℤ
decimal_or default key entry = unwrap_or (option_map decimal_in (at key entry)) default

-- the decimal at a key that has to stand there
unfoldable pub decimal_value : Key → Data → ℤ
decimal_value key entry = unwrap_or (option_map decimal_in (at key entry)) (pos 0)

abbrev pub is_zero : Option ℤ → Bool
is_zero None = false
is_zero (Some d) = int_eq d (pos 0)

-- two decimals aren't both 0, where both are there
unfoldable pub both_zero_fault : Place → Key → Option ℤ → Option ℤ → Option StudyFault
both_zero_fault place key a b = if is_zero a && is_zero b then Some (OutOfRange (key_of place key)) else None

abbrev pub AreNotBothGivenZero : Option ℤ → Option ℤ → Type 0
AreNotBothGivenZero (Some a) (Some b) = AreNotBothZero a b
AreNotBothGivenZero (Some a) None = Unit {0}
AreNotBothGivenZero None b = Unit {0}

-- ---- whole numbers
-- a whole number, or its default
abbrev pub whole_in : ℕ → Option Data → ℕ
whole_in default None = default
whole_in default (Some (integer n)) = unsigned_abs n
whole_in default (Some _) = default

-- the whole number 1 or 2
abbrev pub version_found : Place → Option Data → Option StudyFault
version_found place None = Some (MissingKey place)
version_found place (Some (integer (pos n))) = unless (nat_eq n 1 || nat_eq n 2) VersionUnknown
version_found place (Some (integer (negsuc n))) = Some VersionUnknown
version_found place (Some _) = Some (WrongKind place)

unfoldable pub version_fault : Place → Data → Option StudyFault
version_fault place entry = version_found (key_of place key.Version) (at key.Version entry)

unfoldable pub version_value : Data → ℕ
version_value entry = whole_in 1 (at key.Version entry)

-- the whole number 40 or 48, which is 40 by default
abbrev pub scale_found : Place → Option Data → Option StudyFault
scale_found place None = None
scale_found place (Some (integer (pos n))) = unless (nat_eq n 40 || nat_eq n 48) (OutOfRange place)
scale_found place (Some (integer (negsuc n))) = Some (OutOfRange place)
scale_found place (Some _) = Some (WrongKind place)

unfoldable pub scale_fault : Place → Data → Option StudyFault
scale_fault place entry = scale_found (key_of place key.Scale) (at key.Scale entry)

unfoldable pub scale_value : Data → ℕ
scale_value entry = whole_in 40 (at key.Scale entry)

-- a whole number of sections, which is 1 by default
abbrev pub sections_of : Place → ℤ → Option StudyFault
sections_of place n = unless (int_le (pos 1) n && int_le n (pos MAX_SECTIONS)) (OutOfRange place)

abbrev pub sections_found : Place → Option Data → Option StudyFault
sections_found place None = None
sections_found place (Some (integer n)) = sections_of place n
sections_found place (Some _) = Some (WrongKind place)

unfoldable pub sections_fault : Place → Data → Option StudyFault
sections_fault place entry = sections_found (key_of place key.Sections) (at key.Sections entry)

unfoldable pub sections_value : Data → ℕ
sections_value entry = whole_in 1 (at key.Sections entry)

-- ---- words
abbrev pub word_found : {A : Type 0} → Place → Bool → (List ℕ → Option A) → Option Data → Option StudyFault
word_found place needed word None = unless (not needed) (MissingKey place)
word_found place needed word (Some (string text)) = unless (is_some (word text)) (WrongKind place)
word_found place needed word (Some _) = Some (WrongKind place)

-- a word of a list of words, which may be absent unless it is needed
unfoldable pub word_fault : {A : Type 0} → Place → Key → Bool → (List ℕ → Option A) → Data → Option StudyFault
word_fault place key needed word entry = word_found (key_of place key) needed word (at key entry)

abbrev pub word_in : {A : Type 0} → (List ℕ → Option A) → Option Data → Option A
word_in word None = None
word_in word (Some (string text)) = word text
word_in word (Some _) = None

-- what the word at a key means, where there is one
unfoldable pub word_value : {A : Type 0} → (List ℕ → Option A) → Key → Data → Option A
word_value word key entry = word_in word (at key entry)

-- true or false
abbrev pub flag_found : Place → Option Data → Option StudyFault
flag_found place None = None
flag_found place (Some (boolean b)) = None
flag_found place (Some _) = Some (WrongKind place)

unfoldable pub flag_fault : Place → Key → Data → Option StudyFault
flag_fault place key entry = flag_found (key_of place key) (at key entry)

abbrev pub flag_in : Option Data → Bool
flag_in (Some (boolean b)) = b
flag_in _ = false

-- what stands at a key, and false by default
unfoldable pub flag_value : Key → Data → Bool
flag_value key entry = flag_in (at key entry)

-- ---- names
-- the place of a name among names, from this number on
abbrev pub name_at : ℕ → List (List ℕ) → List ℕ → Option ℕ
name_at n [] name = None
name_at n (x ∷ xs) name = if bytes_eq x name then Some n else name_at (n + 1) xs name

-- a name that no earlier entry has
abbrev pub name_found : Place → List (List ℕ) → Option Data → Option StudyFault
name_found place earlier None = Some (MissingKey place)
name_found place earlier (Some (string text)) = if is_name text then unless (not (is_some (name_at 0 earlier text))) (DuplicateName place) else Some (BadName place)
name_found place earlier (Some _) = Some (WrongKind place)

unfoldable pub name_fault : Place → List (List ℕ) → Data → Option StudyFault
name_fault place earlier entry = name_found (key_of place key.Name) earlier (at key.Name entry)

abbrev pub text_in : Option Data → List ℕ
text_in (Some (string text)) = text
text_in _ = []

-- the name of an entry
unfoldable pub name_value : Data → List ℕ
name_value entry = text_in (at key.Name entry)

-- a name that isn't this word
abbrev pub reserved_found : Place → List ℕ → Option Data → Option StudyFault
reserved_found place word (Some (string text)) = unless (not (bytes_eq text word)) (BadName place)
reserved_found place word _ = None

unfoldable pub reserved_fault : Place → List ℕ → Data → Option StudyFault
reserved_fault place word entry = reserved_found (key_of place key.Name) word (at key.Name entry)

-- the place of the bus of a name, from this number on
abbrev pub bus_at : ℕ → List Bus → List ℕ → Option ℕ
bus_at n [] name = None
bus_at n (bus ∷ buses) name = if bytes_eq bus.name name then Some n else bus_at (n + 1) buses name

-- the name of a bus
abbrev pub bus_found : Place → List Bus → Option Data → Option StudyFault
bus_found place buses None = Some (MissingKey place)
bus_found place buses (Some (string text)) = if is_name text then unless (is_some (bus_at 0 buses text)) (UnknownBus place) else Some (BadName place)
bus_found place buses (Some _) = Some (WrongKind place)

unfoldable pub bus_fault : Place → Key → List Bus → Data → Option StudyFault
bus_fault place key buses entry = bus_found (key_of place key) buses (at key entry)

-- the number of a bus from 0
unfoldable pub bus_value : Key → List Bus → Data → ℕ
bus_value key buses entry = unwrap_or (bus_at 0 buses (text_in (at key entry))) 0

-- ---- entries
-- an entry is a table
abbrev pub table_fault : Place → Data → Option StudyFault
table_fault place (table ms) = None
table_fault place _ = Some (WrongKind place)

abbrev pub is_listed : List Key → List ℕ → Bool
is_listed [] name = false
is_listed (key ∷ keys) name = bytes_eq (key_text key) name || is_listed keys name

abbrev pub are_listed : List Key → Members → Bool
are_listed keys no_members = true
are_listed keys (member name value rest) = is_listed keys name && are_listed keys rest

-- an entry has no key that isn't listed
abbrev pub unknown_fault : Place → List Key → Data → Option StudyFault
unknown_fault place keys (table ms) = unless (are_listed keys ms) (UnknownKey place)
unknown_fault place keys _ = None

-- an entry is a table that has no key beyond these
unfoldable pub keys_fault : Place → Place → List Key → Data → Option StudyFault
keys_fault kind unknown keys entry = first_fault (table_fault kind entry ∷ unknown_fault unknown keys entry ∷ [])
