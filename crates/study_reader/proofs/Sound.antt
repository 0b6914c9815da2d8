-- What the values of keys keep where their checks find no fault.
use Rattle.std.proofs.Common.{◌≡◌, ◌≢◌, ◌<◌, ◌+◌, ◌⊎◌, ⊎_elim, ℕ, ℤ, pos, negsuc, Bool, true, false, not, ◌&&◌, ◌||◌, if◌then◌else◌, nat_eq, List, [], ◌∷◌, Option, Some, None, length, refl, arith, sym, subst, T, bytes_eq, get_or, zero, suc}
use Rattle.std.specs.Prelude.{IfSome, is_some, option_map, unwrap_or, int_le, int_lt, unsigned_abs, ◌≤ℤ◌, ◌<ℤ◌, ◌≤◌}
use Rattle.std.specs.Ordering.{int_eq}
use Rattle.std.specs.Result.{result_ok}
use mathlib.Core.Logic.{inl}
use lib.Signed.{le_z_yes, lt_z_yes}
use Rattle.std.proofs.lemmas.Bool.{and_parts}
use Rattle.std.proofs.lemmas.Bool.Decides.{nat_tests}
use Rattle.std.proofs.lemmas.Int.{ints}
use Rattle.std.proofs.lemmas.Slice.Eq.{bytes_eq-Decides}
use Rattle.toml.specs.Data.{Data, string, integer, float, boolean, datetime, array, table}
use Rattle.fixed_decimal.specs.Parsed.{decimal_of, whole_decimal_of}
use Rattle.study_model.specs.NameText.{is_name}
use Rattle.study_model.specs.Range.{IsIn}
use Rattle.study_model.specs.Lawful.{IsName, IsBus}
use Rattle.study_model.specs.declared.fault.Place.{Place}
use Rattle.study_model.specs.declared.fault.Key.{Key}
use Rattle.study_model.specs.declared.fault.Key.TheVariants as key
use Rattle.study_model.specs.declared.fault.StudyFault.{StudyFault}
use Rattle.study_model.specs.declared.fault.StudyFault.TheVariants.{VersionUnknown, UnknownKey, OutOfRange, BadName, DuplicateName, UnknownBus, UnknownElement}
use Rattle.study_model.specs.declared.limits.TheConstants.{MAX_SECTIONS}
use Rattle.study_model.specs.declared.range.Range.{Range}
use Rattle.study_model.specs.declared.records.Bus.{Bus}
use Rattle.study_reader.specs.Checks.{first_fault, unless, key_of, at, has, stray_fault, range_fault, decimal_check, millionths_of, decimal_in, decimal_found, optional_fault, decimal_fault, default_fault, option_value, decimal_or, decimal_value, is_zero, both_zero_fault, AreNotBothGivenZero, version_found, version_fault, version_value, scale_found, scale_fault, scale_value, whole_in, sections_found, sections_fault, sections_value, word_found, word_fault, word_in, word_value, name_at, name_found, name_fault, name_value, text_in, reserved_found, reserved_fault, bus_at, bus_found, bus_fault, bus_value}
use Rattle.study_reader.specs.Points.{element_at, element_found, element_fault, element_value}
use Rattle.study_reader.specs.Lawful.{IsFresh, Reaches}
use Rattle.study_reader.specs.declared.context.Element.{Element}
use Rattle.study_reader.proofs.Fresh.{fresh, some_of, reaches}

-- where a list of checks finds no fault, none of them does
pub no_fault : (checks : List (Option StudyFault)) → first_fault checks ≡ None → (n : ℕ) → get_or checks n None ≡ None
no_fault [] e n = refl
no_fault (None ∷ checks) e zero = refl
no_fault (None ∷ checks) e (suc n) = no_fault checks e n
no_fault (Some fault ∷ checks) e n = absurd (cc)

pub passed : (test : Bool) (fault : StudyFault) → unless test fault ≡ None → test ≡ true
passed true fault e = refl
passed false fault e = absurd (cc)

pub at_most_of : (a b : ℤ) → int_le a b ≡ true → a ≤ℤ b
at_most_of a b e = le_z_yes (subst T (sym e) tt)

pub below_of : (a b : ℤ) → int_lt a b ≡ true → a <ℤ b
below_of a b e = lt_z_yes (subst T (sym e) tt)

-- ---- decimals
in_range : (place : Place) (range : Range) (decimal : Option ℤ) → range_fault place range decimal ≡ None → IsIn range (millionths_of decimal)
in_range place range None e = absurd (cc)
in_range place range (Some d) e =
    let both = and_parts (int_le range.low d) (int_le d range.high) (passed (int_le range.low d && int_le d range.high) (OutOfRange place) e) in
    (at_most_of range.low d both.0, at_most_of d range.high both.1)

pub checked : (place : Place) (range : Range) (d : Data) → decimal_check place range d ≡ None → IsIn range (decimal_in d)
checked place range (string text) e = in_range place range (result_ok (decimal_of text)) e
checked place range (integer n) e = in_range place range (result_ok (whole_decimal_of n)) e
checked place range (float x) e = absurd (cc)
checked place range (boolean b) e = absurd (cc)
checked place range (datetime t) e = absurd (cc)
checked place range (array ds) e = absurd (cc)
checked place range (table ms) e = absurd (cc)

found : (place : Place) (needed : Bool) (range : Range) (o : Option Data) → decimal_found place needed range o ≡ None
    → IfSome (option_map decimal_in o) (IsIn range) × (needed ≡ true → is_some (option_map decimal_in o) ≡ true)
found place true range None e = absurd (cc)
found place false range None e = (tt, λ needed. needed)
found place needed range (Some value) e = (checked place range value e, λ n. refl)

-- a decimal that may be absent lies in its range, and is there where it is needed
pub optional_sound : (place : Place) (key : Key) (needed : Bool) (range : Range) (entry : Data) → optional_fault place key needed range entry ≡ None
    → IfSome (option_value key entry) (IsIn range) × (needed ≡ true → is_some (option_value key entry) ≡ true)
unfolding optional_fault option_value
optional_sound place key needed range entry e = found (key_of place key) needed range (at key entry) e

there : (range : Range) (o : Option ℤ) → IfSome o (IsIn range) → is_some o ≡ true → IsIn range (unwrap_or o (pos 0))
there range None h n = absurd (cc)
there range (Some d) h n = h

or_default : (range : Range) (o : Option ℤ) (default : ℤ) → IfSome o (IsIn range) → IsIn range default → IsIn range (unwrap_or o default)
or_default range None default h k = k
or_default range (Some d) default h k = h

-- a decimal that has to stand there lies in its range
pub decimal_sound : (place : Place) (key : Key) (range : Range) (entry : Data) → decimal_fault place key range entry ≡ None → IsIn range (decimal_value key entry)
unfolding decimal_fault decimal_value
decimal_sound place key range entry e =
    let f = found (key_of place key) true range (at key entry) e in there range (option_map decimal_in (at key entry)) f.0 (f.1 refl)

-- and so does a decimal whose default does
pub default_sound : (place : Place) (key : Key) (range : Range) (default : ℤ) (entry : Data) → default_fault place key range entry ≡ None
    → IsIn range default → IsIn range (decimal_or default key entry)
unfolding default_fault decimal_or
default_sound place key range default entry e k =
    let f = found (key_of place key) false range (at key entry) e in or_default range (option_map decimal_in (at key entry)) default f.0 k

is_there : (o : Option Data) → is_some (option_map decimal_in o) ≡ is_some o
is_there None = refl
is_there (Some d) = refl

-- the decimal of a key is there where the key is
pub given_has : (key : Key) (entry : Data) → is_some (option_value key entry) ≡ has key entry
unfolding option_value
given_has key entry = is_there (at key entry)

no_default : (o : Option Data) (default : ℤ) → is_some o ≡ false → unwrap_or (option_map decimal_in o) default ≡ default
no_default None default e = refl
no_default (Some d) default e = absurd (cc)

pub absent_default : (key : Key) (default : ℤ) (entry : Data) → has key entry ≡ false → decimal_or default key entry ≡ default
unfolding decimal_or
absent_default key default entry e = no_default (at key entry) default e

not_there : (belongs given : Bool) → (belongs || not given) ≡ true → belongs ≡ false → given ≡ false
not_there true given e b = absurd (cc)
not_there false true e b = absurd (cc)
not_there false false e b = refl

-- a key that doesn't belong there is absent
pub stray_sound : (place : Place) (key : Key) (belongs : Bool) (entry : Data) → stray_fault place key belongs entry ≡ None → belongs ≡ false → has key entry ≡ false
unfolding stray_fault
stray_sound place key belongs entry e = not_there belongs (has key entry) (passed (belongs || not (has key entry)) (UnknownKey (key_of place key)) e)

untrue : (test : Bool) (fault : StudyFault) → (if test then Some fault else None) ≡ None → test ≡ false
untrue false fault e = refl
untrue true fault e = absurd (cc)

not_zeros : (a b : Option ℤ) (fault : StudyFault) → (if is_zero a && is_zero b then Some fault else None) ≡ None → AreNotBothGivenZero a b
not_zeros None b fault e = tt
not_zeros (Some a) None fault e = tt
not_zeros (Some a) (Some b) fault e = λ zeros.
    let both : (int_eq a (pos 0) && int_eq b (pos 0)) ≡ true = rw (zeros.0, zeros.1) refl in
    let none = untrue (int_eq a (pos 0) && int_eq b (pos 0)) fault e in absurd (cc (both, none))

-- two decimals aren't both 0
pub zeros_sound : (place : Place) (key : Key) (a b : Option ℤ) → both_zero_fault place key a b ≡ None → AreNotBothGivenZero a b
unfolding both_zero_fault
zeros_sound place key a b e = not_zeros a b (OutOfRange (key_of place key)) e

-- ---- whole numbers
either : (n : ℕ) (test test' : Bool) → (test || test') ≡ true → nat_eq n 40 ≡ test → nat_eq n 48 ≡ test' → (n ≡ 40) ⊎ (n ≡ 48)
either n test test' e h k = grind (arith, nat_tests)

scale_either : (place : Place) (o : Option Data) → scale_found place o ≡ None → (whole_in 40 o ≡ 40) ⊎ (whole_in 40 o ≡ 48)
scale_either place None e = inl refl
scale_either place (Some (integer (pos n))) e = either n (nat_eq n 40) (nat_eq n 48) (passed (nat_eq n 40 || nat_eq n 48) (OutOfRange place) e) refl refl
scale_either place (Some (integer (negsuc n))) e = absurd (cc)
scale_either place (Some (string text)) e = absurd (cc)
scale_either place (Some (float x)) e = absurd (cc)
scale_either place (Some (boolean b)) e = absurd (cc)
scale_either place (Some (datetime t)) e = absurd (cc)
scale_either place (Some (array ds)) e = absurd (cc)
scale_either place (Some (table ms)) e = absurd (cc)

-- the scale is 40 or 48
pub scale_sound : (place : Place) (entry : Data) → scale_fault place entry ≡ None → (scale_value entry ≡ 40) ⊎ (scale_value entry ≡ 48)
unfolding scale_fault scale_value
scale_sound place entry e = scale_either (key_of place key.Scale) (at key.Scale entry) e

one_or_two : (n : ℕ) (test test' : Bool) → (test || test') ≡ true → nat_eq n 1 ≡ test → nat_eq n 2 ≡ test' → (n ≡ 1) ⊎ (n ≡ 2)
one_or_two n test test' e h k = grind (arith, nat_tests)

version_either : (place : Place) (o : Option Data) → version_found place o ≡ None → (whole_in 1 o ≡ 1) ⊎ (whole_in 1 o ≡ 2)
version_either place None e = absurd (cc)
version_either place (Some (integer (pos n))) e = one_or_two n (nat_eq n 1) (nat_eq n 2) (passed (nat_eq n 1 || nat_eq n 2) VersionUnknown e) refl refl
version_either place (Some (integer (negsuc n))) e = absurd (cc)
version_either place (Some (string text)) e = absurd (cc)
version_either place (Some (float x)) e = absurd (cc)
version_either place (Some (boolean b)) e = absurd (cc)
version_either place (Some (datetime t)) e = absurd (cc)
version_either place (Some (array ds)) e = absurd (cc)
version_either place (Some (table ms)) e = absurd (cc)

-- the version is 1 or 2
pub version_sound : (place : Place) (entry : Data) → version_fault place entry ≡ None → (version_value entry ≡ 1) ⊎ (version_value entry ≡ 2)
unfolding version_fault version_value
version_sound place entry e = version_either (key_of place key.Version) (at key.Version entry) e

-- a whole number between 1 and a limit, as a count
pub counted : (n : ℤ) (limit : ℕ) → pos 1 ≤ℤ n → n ≤ℤ pos limit → (1 ≤ unsigned_abs n) × (unsigned_abs n ≤ limit)
counted n limit least most = (omega (arith, ints, least, most), omega (arith, ints, least, most))

sections_within : (place : Place) (o : Option Data) → sections_found place o ≡ None → (1 ≤ whole_in 1 o) × (whole_in 1 o ≤ MAX_SECTIONS)
sections_within place None e = (omega arith, omega arith)
sections_within place (Some (integer n)) e =
    let both = and_parts (int_le (pos 1) n) (int_le n (pos MAX_SECTIONS)) (passed (int_le (pos 1) n && int_le n (pos MAX_SECTIONS)) (OutOfRange place) e) in
    counted n MAX_SECTIONS (at_most_of (pos 1) n both.0) (at_most_of n (pos MAX_SECTIONS) both.1)
sections_within place (Some (string text)) e = absurd (cc)
sections_within place (Some (float x)) e = absurd (cc)
sections_within place (Some (boolean b)) e = absurd (cc)
sections_within place (Some (datetime t)) e = absurd (cc)
sections_within place (Some (array ds)) e = absurd (cc)
sections_within place (Some (table ms)) e = absurd (cc)

-- a line has few sections
pub sections_sound : (place : Place) (entry : Data) → sections_fault place entry ≡ None → (1 ≤ sections_value entry) × (sections_value entry ≤ MAX_SECTIONS)
unfolding sections_fault sections_value
sections_sound place entry e = sections_within (key_of place key.Sections) (at key.Sections entry) e

-- ---- words
word_there : {A : Type 0} (place : Place) (needed : Bool) (word : List ℕ → Option A) (o : Option Data) → word_found place needed word o ≡ None
    → (is_some (word_in word o) ≡ is_some o) × (needed ≡ true → is_some (word_in word o) ≡ true)
word_there place true word None e = absurd (cc)
word_there place false word None e = (refl, λ needed. needed)
word_there place needed word (Some (string text)) e = let known = passed (is_some (word text)) _ e in (known, λ n. known)
word_there place needed word (Some (integer n)) e = absurd (cc)
word_there place needed word (Some (float x)) e = absurd (cc)
word_there place needed word (Some (boolean b)) e = absurd (cc)
word_there place needed word (Some (datetime t)) e = absurd (cc)
word_there place needed word (Some (array ds)) e = absurd (cc)
word_there place needed word (Some (table ms)) e = absurd (cc)

-- the meaning of a word is there where its key is, and where it is needed
pub word_sound : {A : Type 0} (place : Place) (key : Key) (needed : Bool) (word : List ℕ → Option A) (entry : Data) → word_fault place key needed word entry ≡ None
    → (is_some (word_value word key entry) ≡ has key entry) × (needed ≡ true → is_some (word_value word key entry) ≡ true)
unfolding word_fault word_value
word_sound place key needed word entry e = word_there (key_of place key) needed word (at key entry) e

-- ---- names
pub branch : (test : Bool) (check : Option StudyFault) (fault : StudyFault) → (if test then check else Some fault) ≡ None → (test ≡ true) × (check ≡ None)
branch true check fault e = (refl, e)
branch false check fault e = absurd (cc)

no_place : (o : Option ℕ) → not (is_some o) ≡ true → o ≡ None
no_place None e = refl
no_place (Some n) e = absurd (cc)

text_named : (place : Place) (earlier : List (List ℕ)) (o : Option Data) → name_found place earlier o ≡ None → IsName (text_in o) × IsFresh earlier (text_in o)
text_named place earlier None e = absurd (cc)
text_named place earlier (Some (string text)) e =
    let b = branch (is_name text) (unless (not (is_some (name_at 0 earlier text))) (DuplicateName place)) (BadName place) e in
    (b.0, fresh earlier text (no_place (name_at 0 earlier text) (passed (not (is_some (name_at 0 earlier text))) (DuplicateName place) b.1)))
text_named place earlier (Some (integer n)) e = absurd (cc)
text_named place earlier (Some (float x)) e = absurd (cc)
text_named place earlier (Some (boolean b)) e = absurd (cc)
text_named place earlier (Some (datetime t)) e = absurd (cc)
text_named place earlier (Some (array ds)) e = absurd (cc)
text_named place earlier (Some (table ms)) e = absurd (cc)

-- a name is one, and no earlier entry has it
pub name_sound : (place : Place) (earlier : List (List ℕ)) (entry : Data) → name_fault place earlier entry ≡ None → IsName (name_value entry) × IsFresh earlier (name_value entry)
unfolding name_fault name_value
name_sound place earlier entry e = text_named (key_of place key.Name) earlier (at key.Name entry) e

not_word : (test : Bool) → not test ≡ true → test ≡ false
not_word false e = refl
not_word true e = absurd (cc)

no_word : (place : Place) (word : List ℕ) (o : Option Data) → IsName (text_in o) → reserved_found place word o ≡ None → text_in o ≢ word
no_word place word None named e = absurd (cc)
no_word place word (Some (string text)) named e = λ same.
    let other = not_word (bytes_eq text word) (passed (not (bytes_eq text word)) (BadName place) e) in
    let yes : bytes_eq text word ≡ true = (bytes_eq-Decides text word).1 same in absurd (cc (other, yes))
no_word place word (Some (integer n)) named e = absurd (cc)
no_word place word (Some (float x)) named e = absurd (cc)
no_word place word (Some (boolean b)) named e = absurd (cc)
no_word place word (Some (datetime t)) named e = absurd (cc)
no_word place word (Some (array ds)) named e = absurd (cc)
no_word place word (Some (table ms)) named e = absurd (cc)

-- a name isn't a word that is reserved
pub reserved_sound : (place : Place) (word : List ℕ) (entry : Data) → IsName (name_value entry) → reserved_fault place word entry ≡ None → name_value entry ≢ word
unfolding reserved_fault name_value
reserved_sound place word entry named e = no_word (key_of place key.Name) word (at key.Name entry) named e

bus_within : (n : ℕ) (buses : List Bus) (text : List ℕ) (m : ℕ) → bus_at n buses text ≡ Some m → m < n + length buses
bus_within n [] text m e = absurd (cc)
bus_within n (bus ∷ buses) text m e =
    ⊎_elim (λ head. omega (arith, head.1)) (λ rest. omega (arith, bus_within (n + 1) buses text m rest)) (some_of (bytes_eq bus.name text) n m (bus_at (n + 1) buses text) e)

some_bus : (o : Option ℕ) (len : ℕ) → ((m : ℕ) → o ≡ Some m → m < len) → is_some o ≡ true → unwrap_or o 0 < len
some_bus None len h e = absurd (cc)
some_bus (Some m) len h e = h m refl

text_bus : (place : Place) (buses : List Bus) (o : Option Data) → bus_found place buses o ≡ None → unwrap_or (bus_at 0 buses (text_in o)) 0 < length buses
text_bus place buses None e = absurd (cc)
text_bus place buses (Some (string text)) e =
    let b = branch (is_name text) (unless (is_some (bus_at 0 buses text)) (UnknownBus place)) (BadName place) e in
    some_bus (bus_at 0 buses text) (length buses) (λ m same. omega (arith, bus_within 0 buses text m same)) (passed (is_some (bus_at 0 buses text)) (UnknownBus place) b.1)
text_bus place buses (Some (integer n)) e = absurd (cc)
text_bus place buses (Some (float x)) e = absurd (cc)
text_bus place buses (Some (boolean b)) e = absurd (cc)
text_bus place buses (Some (datetime t)) e = absurd (cc)
text_bus place buses (Some (array ds)) e = absurd (cc)
text_bus place buses (Some (table ms)) e = absurd (cc)

-- the number of a bus is one
pub bus_sound : (place : Place) (key : Key) (buses : List Bus) (entry : Data) → bus_fault place key buses entry ≡ None → IsBus buses (bus_value key buses entry)
unfolding bus_fault bus_value
bus_sound place key buses entry e = text_bus (key_of place key) buses (at key entry) e

some_element : (elements : List Element) (bus : ℕ) (o : Option ℕ) → ((m : ℕ) → o ≡ Some m → Reaches elements bus m) → is_some o ≡ true → Reaches elements bus (unwrap_or o 0)
some_element elements bus None h e = absurd (cc)
some_element elements bus (Some m) h e = h m refl

text_element : (place : Place) (elements : List Element) (bus : ℕ) (o : Option Data) → element_found place elements bus o ≡ None
    → Reaches elements bus (unwrap_or (element_at 1 elements (text_in o) bus) 0)
text_element place elements bus None e = absurd (cc)
text_element place elements bus (Some (string text)) e =
    let b = branch (is_name text) (unless (is_some (element_at 1 elements text bus)) (UnknownElement place)) (BadName place) e in
    some_element elements bus (element_at 1 elements text bus) (λ m same. reaches elements text bus m same) (passed (is_some (element_at 1 elements text bus)) (UnknownElement place) b.1)
text_element place elements bus (Some (integer n)) e = absurd (cc)
text_element place elements bus (Some (float x)) e = absurd (cc)
text_element place elements bus (Some (boolean b)) e = absurd (cc)
text_element place elements bus (Some (datetime t)) e = absurd (cc)
text_element place elements bus (Some (array ds)) e = absurd (cc)
text_element place elements bus (Some (table ms)) e = absurd (cc)

-- the element of a point has an end at its bus
pub element_sound : (place : Place) (elements : List Element) (bus : ℕ) (entry : Data) → element_fault place elements bus entry ≡ None
    → Reaches elements bus (element_value elements bus entry)
unfolding element_fault element_value
element_sound place elements bus entry e = text_element (key_of place key.Element) elements bus (at key.Element entry) e
