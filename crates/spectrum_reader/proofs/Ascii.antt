-- Decimals are ASCII.
use Rattle.std.proofs.Common.{◌≡◌, refl, sym, subst, arith, ℕ, zero, suc, ◌<◌, ℤ, Bool, true, false, List, [], ◌∷◌, ◌++◌, None, Result, Ok, Err}
use Rattle.std.specs.Str.{IsUtf8, IsAscii}
use Rattle.std.specs.Result.{result_ok}
use Rattle.std.proofs.lemmas.Str.{IsAscii-append, IsUtf8-from_ascii}
use Rattle.fixed_decimal.specs.Parsed.{AreDigits, decimal_of}
use Rattle.fixed_decimal.specs.Grammar.{Judges, minus, point_and}
use Rattle.fixed_decimal.specs.declared.fault.DecimalFault.{DecimalFault}
use Rattle.fixed_decimal.proofs.Answers.{answer_is}
use Rattle.spectrum_reader.specs.Fields.{decimal_in}

none_ascii : IsAscii []
none_ascii i = omega arith

more_ascii : (x : ℕ) (xs : List ℕ) → x < 128 → IsAscii xs → IsAscii (x ∷ xs)
more_ascii x xs small rest zero = small
more_ascii x xs small rest (suc i) = rest i

digits_ascii : (xs : List ℕ) → AreDigits xs → IsAscii xs
digits_ascii [] ds = none_ascii
digits_ascii (x ∷ xs) ds = more_ascii x xs (omega (arith, ds.0.1)) (digits_ascii xs ds.1)

minus_ascii : (negative : Bool) → IsAscii (minus negative)
minus_ascii true = more_ascii 45 [] (omega arith) none_ascii
minus_ascii false = none_ascii

point_ascii : (xs : List ℕ) → AreDigits xs → IsAscii (point_and xs)
point_ascii [] ds = none_ascii
point_ascii (x ∷ xs) ds = more_ascii 46 (x ∷ xs) (omega arith) (digits_ascii (x ∷ xs) ds)

no_value : (text : List ℕ) (answer : Result ℤ DecimalFault) → answer ≡ decimal_of text → ¬ (IsUtf8 text) → result_ok answer ≡ None
unfolding Judges
no_value text (Err fault) e none = refl
no_value text (Ok millionths) e none =
    let w = (answer_is text (Ok millionths) e).judged.2 in
    let ascii : IsAscii (minus w.negative ++ w.whole ++ point_and w.fraction) =
    IsAscii-append (minus w.negative ++ w.whole) (point_and w.fraction)
    (IsAscii-append (minus w.negative) w.whole (minus_ascii w.negative) (digits_ascii w.whole w.whole_digits)) (point_ascii w.fraction w.fraction_digits) in
    absurd (none (IsUtf8-from_ascii text (subst IsAscii (sym w.spelled) ascii)))

-- a text that is no UTF-8 writes no decimal
pub no_decimal : (text : List ℕ) → ¬ (IsUtf8 text) → decimal_in text ≡ None
unfolding decimal_in
no_decimal text none = no_value text (decimal_of text) refl none
