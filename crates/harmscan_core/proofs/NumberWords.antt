-- Words that are numbers.
use Rattle.std.proofs.Common.{◌≡◌, ◌∙◌, ◌≤◌, ◌<◌, ◌^◌, ℕ, Bool, true, false, ◌&&◌, nat_le, List, [], ◌∷◌, length, Some, None, Result, Ok, ap, sym, arith, rules, if◌then◌else◌}
use Rattle.std.proofs.lemmas.Bool.{and_parts}
use Rattle.std.proofs.lemmas.Bool.Decides.{nat_tests}
use Rattle.std.proofs.lemmas.Str.Parse.{IsNumeralModel, IsDigitsTest, numerals_by_value, parse_gives, digits_value_short}
use Rattle.std.specs.Char.{is_ascii_digit}
use Rattle.std.specs.List.{list_all}
use Rattle.std.specs.Result.{result_ok}
use Rattle.std.specs.Str.Parse.{ParsesUnsigned, digits_value}
use Rattle.harmscan_core.specs.Words.{has_no_leading_zero, is_number_word, number_in}

abbrev AreDigits : List ℕ → Type 0
AreDigits word = list_all is_ascii_digit word ≡ true

tells : IsDigitsTest AreDigits
tells = search rules

own : IsNumeralModel AreDigits (digits_value 10)
own = numerals_by_value AreDigits tells

short : (n : ℕ) → nat_le n 6 ≡ true → n ≤ 6
short n h = grind (arith, nat_tests)

some_digit : (word : List ℕ) → has_no_leading_zero word ≡ true → 0 < length word
some_digit [] h = absurd (cc)
some_digit (d ∷ ds) h = omega arith

-- what is parsed of a word of one to six digits is its number
pub number_parsed : {E : Type 0} (word : List ℕ) (r : Result ℕ E) → is_number_word word ≡ true → ParsesUnsigned 32 10 word r → result_ok r ≡ number_in word
unfolding number_in
number_parsed {E} word r is parsed =
    let front = and_parts (has_no_leading_zero word && nat_le (length word) 6) (list_all is_ascii_digit word) is in
    let first = and_parts (has_no_leading_zero word) (nat_le (length word) 6) front.0 in
    let small : digits_value 10 word < 10 ^ 6 = digits_value_short own word 6 front.1 (short (length word) first.1) in
    let gives : r ≡ Ok (digits_value 10 word) = parse_gives own 32 word r parsed front.1 (some_digit word first.0) (omega (arith, small)) in
    ap result_ok gives ∙ sym (ap (λ (b : Bool). if b then Some (digits_value 10 word) else None) is)

pub no_number : (word : List ℕ) → is_number_word word ≡ false → None ≡ number_in word
unfolding number_in
no_number word is = sym (ap (λ (b : Bool). if b then Some (digits_value 10 word) else None) is)
