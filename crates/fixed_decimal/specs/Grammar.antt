-- The grammar of decimals, and what an answer says of a text.
use Rattle.std.specs.Prelude.{◌≡◌, ◌≢◌, ℕ, ◌+◌, ◌-◌, ◌*◌, ◌^◌, ◌<◌, ◌≤◌, ℤ, pos, ◌*ℤ◌, unsigned_abs, Bool, true, false, List, [], ◌∷◌, ◌++◌, length, take, Result, Ok, Err}
use Rattle.fixed_decimal.specs.Parsed.{AreDigits, number, signed}
use Rattle.fixed_decimal.specs.declared.fault.DecimalFault.{DecimalFault}
use Rattle.fixed_decimal.specs.declared.fault.DecimalFault.TheVariants.{Empty, BadByte, TooManyPlaces, TooLarge}

-- a minus, or nothing
abbrev pub minus : Bool → List ℕ
minus true = 45 ∷ []
minus false = []

-- a point and the digits after it, or nothing
abbrev pub point_and : List ℕ → List ℕ
point_and [] = []
point_and (digit ∷ digits) = 46 ∷ digit ∷ digits

-- The text writes value · 10^-places: a minus or none, one or more digits, and perhaps a point with one or more digits.
pub record Writes (text : List ℕ) (value : ℤ) (places : ℕ) : Type 0 where
  pub negative : Bool
  pub whole : List ℕ
  pub fraction : List ℕ
  pub some : 0 < length whole
  pub whole_digits : AreDigits whole
  pub fraction_digits : AreDigits fraction
  pub spelled : text ≡ minus negative ++ whole ++ point_and fraction
  pub value_is : value ≡ signed negative (number (whole ++ fraction))
  pub places_is : places ≡ length fraction

-- the text is in the grammar
abbrev pub IsDecimal : List ℕ → Type 0
IsDecimal text = (value : ℤ) × (places : ℕ) × Writes text value places

-- some text of the grammar begins with it
abbrev pub BeginsDecimal : List ℕ → Type 0
BeginsDecimal front = (rest : List ℕ) × IsDecimal (front ++ rest)

-- At this place stands the first byte that no text of the grammar has there after the same front, or the text ends there, too early.
pub record IsFirstBad (text : List ℕ) (place : ℕ) : Type 0 where
  pub outside : ¬ (IsDecimal text)
  pub within : place ≤ length text
  pub front : BeginsDecimal (take place text)
  pub bad : place < length text → ¬ (BeginsDecimal (take (place + 1) text))

-- What an answer says of a text: the millionths of a text of the grammar with at most six places and a size below a million, or what keeps it from being one.
unfoldable pub Judges : List ℕ → Result ℤ DecimalFault → Type 0
Judges text (Ok millionths) = (value : ℤ) × (places : ℕ) × Writes text value places × (places ≤ 6) × (unsigned_abs value < 10 ^ 6 * 10 ^ places) × (millionths ≡ value *ℤ pos (10 ^ (6 - places)))
Judges text (Err Empty) = text ≡ []
Judges text (Err (BadByte place)) = (text ≢ []) × IsFirstBad text place
Judges text (Err TooManyPlaces) = (value : ℤ) × (places : ℕ) × Writes text value places × (6 < places)
Judges text (Err TooLarge) = (value : ℤ) × (places : ℕ) × Writes text value places × (places ≤ 6) × (10 ^ 6 * 10 ^ places ≤ unsigned_abs value)

-- The answer is what the grammar says of the text, and no other answer is.
pub record IsAnswer (text : List ℕ) (answer : Result ℤ DecimalFault) : Type 0 where
  pub judged : Judges text answer
  pub only : (other : Result ℤ DecimalFault) → Judges text other → other ≡ answer
