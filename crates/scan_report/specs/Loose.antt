-- A text read as a row, whatever stands in it: the row of a text is its row, and other texts are told apart by their row's own text.
use Rattle.std.specs.Prelude.{ℕ, zero, suc, ◌+◌, ◌-◌, ◌*◌, ◌^◌, ℤ, pos, min, max, Bool, not, ◌||◌, ◌==◌, if◌then◌else◌, List, [], ◌∷◌, take, drop, Option, Some, None}
use Rattle.std.specs.List.{prefix_len, fold}
use Rattle.study_model.specs.NameText.{is_name}
use Rattle.study_model.specs.declared.words.Method.{Method}
use Rattle.study_model.specs.declared.words.Method.TheVariants.{Elimination, Both, Branchwise}
use Rattle.scan_report.specs.declared.rows.NetWord.{NetWord}
use Rattle.scan_report.specs.declared.rows.NetWord.TheVariants.{Positive, Zero, A, B, C}
use Rattle.scan_report.specs.declared.rows.BoxWord.{BoxWord}
use Rattle.scan_report.specs.declared.rows.BoxWord.TheVariants.{Cleared, Peak, Undecided}
use Rattle.scan_report.specs.declared.rows.Row.{Row}
use Rattle.scan_report.specs.declared.rows.Row.TheVariants.{Scan, BoxLine, Region, Summary, End}

-- a byte that ends no field: neither a comma nor a line feed
abbrev pub is_inner : ℕ → Bool
is_inner byte = not (byte == 44 || byte == 10)

-- the first field of a text
unfoldable pub field_of : List ℕ → List ℕ
field_of text = take (prefix_len is_inner text) text

-- what stands after it and the byte that ends it
unfoldable pub after_field : List ℕ → List ℕ
after_field text = drop (prefix_len is_inner text + 1) text

-- the field of a text that has this number, its word being 0
abbrev pub field_at : ℕ → List ℕ → List ℕ
field_at zero text = field_of text
field_at (suc n) text = field_at n (after_field text)

-- one more digit of a number, of which a point is none; numbers are capped
abbrev pub digit_on : ℕ → ℕ → ℕ
digit_on value byte = if byte == 46 then value else min (min value (10 ^ 37) * 10 + (byte - 48)) (10 ^ 37)

-- the number whose digits a text has
unfoldable pub number_of : List ℕ → ℕ
number_of text = fold digit_on 0 text

abbrev pub first_of : List ℕ → ℕ
first_of [] = 0
first_of (byte ∷ text) = byte

abbrev pub second_of : List ℕ → ℕ
second_of [] = 0
second_of (byte ∷ text) = first_of text

unfoldable pub short_of : List ℕ → ℕ
short_of text = min (number_of text) (2 ^ 32 - 1)

unfoldable pub long_of : List ℕ → ℕ
long_of text = min (number_of text) (2 ^ 64 - 1)

unfoldable pub order_of : List ℕ → Option ℕ
order_of text = if first_of text == 45 then None else Some (short_of text)

unfoldable pub ohms_of : List ℕ → Option ℤ
ohms_of text = if first_of text == 45 then None else Some (pos (min (number_of text) (2 ^ 120)))

-- a threshold, above 0, or none
unfoldable pub threshold_of : List ℕ → Option ℤ
threshold_of text = if first_of text == 99 then None else Some (pos (max 1 (min (number_of text) 999999999999)))

-- the text, where it is a name
unfoldable pub name_in : List ℕ → List ℕ
name_in text = if is_name text then text else 97 ∷ []

unfoldable pub net_of : List ℕ → NetWord
net_of text = if first_of text == 112 then Positive else (if first_of text == 122 then Zero else (if first_of text == 97 then A else (if first_of text == 98 then B else C)))

unfoldable pub box_word_of : List ℕ → BoxWord
box_word_of text = if first_of text == 99 then Cleared else (if first_of text == 112 then Peak else Undecided)

unfoldable pub method_in : List ℕ → Method
method_in text = if first_of text == 101 then Elimination else (if second_of text == 111 then Both else Branchwise)

unfoldable pub scan_of : List ℕ → Row
scan_of x = Scan (name_in (field_at 1 x)) (name_in (field_at 2 x)) (net_of (field_at 3 x)) (short_of (field_at 4 x)) (short_of (field_at 5 x))
    (threshold_of (field_at 6 x)) (method_in (field_at 7 x))

unfoldable pub box_of : List ℕ → Row
box_of x = BoxLine (short_of (field_at 1 x)) (short_of (field_at 2 x)) (short_of (field_at 3 x)) (box_word_of (field_at 4 x)) (order_of (field_at 5 x))
    (ohms_of (field_at 6 x))

unfoldable pub region_of : List ℕ → Row
region_of x = Region (short_of (field_at 1 x)) (short_of (field_at 2 x)) (short_of (field_at 3 x)) (long_of (field_at 4 x)) (long_of (field_at 5 x))
    (short_of (field_at 6 x)) (short_of (field_at 7 x)) (order_of (field_at 8 x)) (ohms_of (field_at 9 x))

unfoldable pub summary_of : List ℕ → Row
summary_of x = Summary (name_in (field_at 1 x)) (short_of (field_at 2 x)) (short_of (field_at 3 x)) (short_of (field_at 4 x)) (short_of (field_at 5 x))
    (short_of (field_at 6 x))

unfoldable pub end_of : List ℕ → Row
end_of x = End (short_of (field_at 1 x))

-- the row that a text begins with, if it begins with one of the report of a scan
unfoldable pub row_of : List ℕ → Row
row_of text = if first_of text == 98 then box_of text else (if first_of text == 114 then region_of text
    else (if first_of text == 101 then end_of text
    else (if second_of text == 99 then scan_of text else summary_of text)))
