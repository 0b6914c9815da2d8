-- The decimal that a text or a whole number stands for.
use Rattle.std.specs.Prelude.{ℕ, ℤ, pos, neg_ℤ, unsigned_abs, ◌+◌, ◌-◌, ◌*◌, ◌*ℤ◌, ◌^◌, Bool, true, false, not, ◌&&◌, ◌||◌, ◌==◌, nat_lt, nat_le, if◌then◌else◌, List, [], ◌∷◌, length, take, drop, Result, Ok, Err}
use Rattle.std.specs.List.{prefix_len, AllByRecursion}
use Rattle.std.specs.Int.{IsInRange}
use Rattle.std.specs.Char.{is_ascii_digit}
use Rattle.fixed_decimal.specs.declared.fault.DecimalFault.{DecimalFault}
use Rattle.fixed_decimal.specs.declared.fault.DecimalFault.TheVariants.{Empty, BadByte, TooManyPlaces, TooLarge}

-- the longest run of digits at the front of a text
abbrev pub digits : List ℕ → List ℕ
digits text = take (prefix_len is_ascii_digit text) text

-- what comes after it
abbrev pub after_digits : List ℕ → List ℕ
after_digits text = drop (prefix_len is_ascii_digit text) text

-- the whole number that digits write: each counts by its place
abbrev pub number : List ℕ → ℕ
number [] = 0
number (digit ∷ digits) = (digit - 48) * 10 ^ length digits + number digits

-- each byte is a digit
abbrev pub AreDigits : List ℕ → Type 0
AreDigits text = AllByRecursion (IsInRange 48 57) text

-- whether a text's first byte is this one
abbrev pub begins_with : ℕ → List ℕ → Bool
begins_with byte [] = false
begins_with byte (first ∷ rest) = first == byte

-- the text without its first byte, or as it is
abbrev pub past_first : Bool → List ℕ → List ℕ
past_first true text = drop 1 text
past_first false text = text

-- The parts of a text, from its front on: a minus, digits, a point behind them, digits behind it, and what is left.
pub record Parts : Type 0 where
  pub negative : Bool
  pub whole : List ℕ
  pub pointed : Bool
  pub places : List ℕ
  pub rest : List ℕ

-- the parts from the point on
abbrev pub with_places : Bool → List ℕ → Bool → List ℕ → Parts
with_places negative whole true text = record { negative = negative; whole = whole; pointed = true; places = digits text; rest = after_digits text }
with_places negative whole false text = record { negative = negative; whole = whole; pointed = false; places = []; rest = text }

-- the parts from the first digit on
abbrev pub with_digits : Bool → List ℕ → Parts
with_digits negative text =
    let pointed = nat_lt 0 (length (digits text)) && begins_with 46 (after_digits text) in
    with_places negative (digits text) pointed (past_first pointed (after_digits text))

-- the parts of a text
unfoldable pub parts_of : List ℕ → Parts
parts_of text = with_digits (begins_with 45 text) (past_first (begins_with 45 text) text)

-- digits stand before the point, and behind it where there is one, and nothing is left
abbrev pub is_decimal : Parts → Bool
is_decimal parts = nat_lt 0 (length parts.whole) && (not parts.pointed || nat_lt 0 (length parts.places)) && (length parts.rest == 0)

-- a number with its sign
abbrev pub signed : Bool → ℕ → ℤ
signed true n = neg_ℤ (pos n)
signed false n = pos n

-- the millionths of parts whose places are at most six
abbrev pub millionths : Parts → ℕ
millionths parts = number parts.whole * 10 ^ 6 + number parts.places * 10 ^ (6 - length parts.places)

-- what the parts of a text of some length stand for
abbrev pub decimal_in : ℕ → Parts → Result ℤ DecimalFault
decimal_in len parts = if not (is_decimal parts) then Err (BadByte (len - length parts.rest))
    else (if nat_lt 6 (length parts.places) then Err TooManyPlaces
    else (if nat_le (10 ^ 6) (number parts.whole) then Err TooLarge
    else Ok (signed parts.negative (millionths parts))))

-- the decimal of a text, in millionths
unfoldable pub decimal_of : List ℕ → Result ℤ DecimalFault
decimal_of [] = Err Empty
decimal_of (byte ∷ text) = decimal_in (length (byte ∷ text)) (parts_of (byte ∷ text))

-- the decimal of a whole number
unfoldable pub whole_decimal_of : ℤ → Result ℤ DecimalFault
whole_decimal_of value = if nat_le (10 ^ 6) (unsigned_abs value) then Err TooLarge else Ok (value *ℤ pos (10 ^ 6))
