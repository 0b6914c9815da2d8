-- The answers of `decimal_of` are the grammar's.
use Rattle.std.proofs.Common.{◌≡◌, ◌∙◌, ap, sym, subst, ℕ, zero, suc, ◌+◌, ◌-◌, ◌*◌, ◌^◌, ◌≤◌, ◌<◌, ℤ, pos, ◌*ℤ◌, unsigned_abs, Bool, true, false, nat_lt, nat_le, List, [], ◌∷◌, ◌++◌, length, ◌≢◌, refl, arith, Result, Ok, Err}
use Rattle.std.proofs.lemmas.Int.{ints}
use Rattle.std.proofs.Math.Nat.{mul-le-mul_right}
use Rattle.std.proofs.lemmas.Bool.{true≢false}
use Rattle.std.proofs.lemmas.Bool.Decides.{nat_tests}
use Rattle.fixed_decimal.specs.Parsed.{Parts, AreDigits, number, signed, parts_of, is_decimal, millionths, decimal_in, decimal_of}
use Rattle.fixed_decimal.specs.Grammar.{Writes, IsFirstBad, Judges, IsAnswer}
use Rattle.fixed_decimal.specs.declared.fault.DecimalFault.{DecimalFault}
use Rattle.fixed_decimal.specs.declared.fault.DecimalFault.TheVariants.{Empty, BadByte, TooManyPlaces, TooLarge}
use Rattle.fixed_decimal.proofs.Digits.{number-append, number_lt, six_and}
use Rattle.fixed_decimal.proofs.Cuts.{is_cut}
use Rattle.fixed_decimal.proofs.Grammar.{writes_parts, decimal_parts, decimal_writes, first_bad, one_bad}

signed_times : (negative : Bool) (n k : ℕ) → signed negative n *ℤ pos k ≡ signed negative (n * k)
signed_times true zero k = let none : 0 * k ≡ 0 = omega arith in rw none refl
signed_times true (suc n) k = refl
signed_times false n k = refl

size_of : (negative : Bool) (n : ℕ) → unsigned_abs (signed negative n) ≡ n
size_of true n = omega (arith, ints)
size_of false n = refl

regroup : (w f p q : ℕ) → p * q ≡ 1000000 → (w * p + f) * q ≡ w * 1000000 + f * q
regroup w f p q e =
    let spread : (w * p + f) * q ≡ w * (p * q) + f * q = omega arith in
    spread ∙ ap (λ n. w * n + f * q) e

-- a value in millionths, by its whole part and its places
scaled : (whole places : List ℕ) → length places ≤ 6 → number (whole ++ places) * 10 ^ (6 - length places) ≡ number whole * 10 ^ 6 + number places * 10 ^ (6 - length places)
scaled whole places few =
    let k = length places in
    ap (λ n. n * 10 ^ (6 - k)) (number-append whole places) ∙ regroup (number whole) (number places) (10 ^ k) (10 ^ (6 - k)) (six_and k few)

-- the size of a value against a million, by its whole part
small : (whole places : List ℕ) → AreDigits places → number whole < 1000000 → number (whole ++ places) < 1000000 * 10 ^ length places
small whole places ds lt =
    omega (arith, number-append whole places, number_lt places ds, mul-le-mul_right (10 ^ length places) lt)

large : (whole places : List ℕ) → AreDigits places → 1000000 ≤ number whole → 1000000 * 10 ^ length places ≤ number (whole ++ places)
large whole places ds le = omega (arith, number-append whole places, mul-le-mul_right (10 ^ length places) le)

small_back : (whole places : List ℕ) → AreDigits places → number (whole ++ places) < 1000000 * 10 ^ length places → number whole < 1000000
small_back whole places ds lt =
    let none : ¬ (1000000 ≤ number whole) = λ le. absurd (omega (arith, large whole places ds le)) in
    omega arith

large_back : (whole places : List ℕ) → AreDigits places → 1000000 * 10 ^ length places ≤ number (whole ++ places) → 1000000 ≤ number whole
large_back whole places ds le =
    let none : ¬ (number whole < 1000000) = λ lt. absurd (omega (arith, small whole places ds lt)) in
    omega arith

-- the answer by the parts
in_parts : (text : List ℕ) (parts : Parts) → parts_of text ≡ parts → text ≢ [] → decimal_of text ≡ decimal_in (length text) parts
unfolding decimal_of
in_parts [] parts e some = absurd (some refl)
in_parts (byte ∷ text) parts e some = ap (decimal_in (length (byte ∷ text))) e

no_text : is_decimal (parts_of []) ≡ false
unfolding parts_of
no_text = refl

some_text : (text : List ℕ) (parts : Parts) → parts_of text ≡ parts → is_decimal parts ≡ true → text ≢ []
some_text text parts e whole_is empty = true≢false (sym whole_is ∙ ap is_decimal (sym e) ∙ ap (λ t. is_decimal (parts_of t)) empty ∙ no_text)

bad_at : (text : List ℕ) → text ≢ [] → is_decimal (parts_of text) ≡ false → decimal_of text ≡ Err (BadByte (length text - length (parts_of text).rest))
bad_at text some none = in_parts text (parts_of text) refl some ∙ rw none refl

many_at : (text : List ℕ) (parts : Parts) → parts_of text ≡ parts → is_decimal parts ≡ true → 6 < length parts.places → decimal_of text ≡ Err TooManyPlaces
many_at text parts e whole_is many =
    let test : nat_lt 6 (length parts.places) ≡ true = grind (arith, nat_tests) in
    in_parts text parts e (some_text text parts e whole_is) ∙ rw (whole_is, test) refl

large_at : (text : List ℕ) (parts : Parts) → parts_of text ≡ parts → is_decimal parts ≡ true → length parts.places ≤ 6 → 1000000 ≤ number parts.whole → decimal_of text ≡ Err TooLarge
large_at text parts e whole_is few great =
    let test : nat_lt 6 (length parts.places) ≡ false = grind (arith, nat_tests) in
    let second : nat_le 1000000 (number parts.whole) ≡ true = grind (arith, nat_tests) in
    in_parts text parts e (some_text text parts e whole_is) ∙ rw (whole_is, test, second) refl

value_at : (text : List ℕ) (parts : Parts) → parts_of text ≡ parts → is_decimal parts ≡ true → length parts.places ≤ 6 → number parts.whole < 1000000 → decimal_of text ≡ Ok (signed parts.negative (millionths parts))
value_at text parts e whole_is few below =
    let test : nat_lt 6 (length parts.places) ≡ false = grind (arith, nat_tests) in
    let second : nat_le 1000000 (number parts.whole) ≡ false = grind (arith, nat_tests) in
    in_parts text parts e (some_text text parts e whole_is) ∙ rw (whole_is, test, second) refl

-- what the tests of the parts find is so
judged_value : (text : List ℕ) → is_decimal (parts_of text) ≡ true → length (parts_of text).places ≤ 6 → number (parts_of text).whole < 1000000
    → Judges text (Ok (signed (parts_of text).negative (millionths (parts_of text))))
unfolding Judges
judged_value text whole_is few below =
    let parts = parts_of text in
    let n = number (parts.whole ++ parts.places) in (
      signed parts.negative n,
      length parts.places,
      decimal_writes text whole_is,
      few,
      subst (λ size. size < 1000000 * 10 ^ length parts.places) (sym (size_of parts.negative n)) (small parts.whole parts.places (is_cut text).place_digits below),
      ap (signed parts.negative) (sym (scaled parts.whole parts.places few)) ∙ sym (signed_times parts.negative n (10 ^ (6 - length parts.places))),
    )

judged_large : (text : List ℕ) → is_decimal (parts_of text) ≡ true → length (parts_of text).places ≤ 6 → 1000000 ≤ number (parts_of text).whole → Judges text (Err TooLarge)
unfolding Judges
judged_large text whole_is few great =
    let parts = parts_of text in
    let n = number (parts.whole ++ parts.places) in (
      signed parts.negative n,
      length parts.places,
      decimal_writes text whole_is,
      few,
      subst (λ size. 1000000 * 10 ^ length parts.places ≤ size) (sym (size_of parts.negative n)) (large parts.whole parts.places (is_cut text).place_digits great),
    )

judged_many : (text : List ℕ) → is_decimal (parts_of text) ≡ true → 6 < length (parts_of text).places → Judges text (Err TooManyPlaces)
unfolding Judges
judged_many text whole_is many =
    let parts = parts_of text in
    (signed parts.negative (number (parts.whole ++ parts.places)), length parts.places, decimal_writes text whole_is, many)

judged_bad : (text : List ℕ) → text ≢ [] → is_decimal (parts_of text) ≡ false → Judges text (Err (BadByte (length text - length (parts_of text).rest)))
unfolding Judges
judged_bad text some none = (some, first_bad text none)

judged_empty : Judges [] (Err Empty)
unfolding Judges
judged_empty = refl

empty_at : decimal_of [] ≡ Err Empty
unfolding decimal_of
empty_at = refl

judged_whole : (text : List ℕ) → is_decimal (parts_of text) ≡ true → (many : Bool) → nat_lt 6 (length (parts_of text).places) ≡ many
    → (great : Bool) → nat_le 1000000 (number (parts_of text).whole) ≡ great → Judges text (decimal_of text)
judged_whole text whole_is true e great f =
    let many : 6 < length (parts_of text).places = grind (arith, nat_tests) in
    subst (Judges text) (sym (many_at text _ refl whole_is many)) (judged_many text whole_is many)
judged_whole text whole_is false e true f =
    let few : length (parts_of text).places ≤ 6 = grind (arith, nat_tests) in
    let great : 1000000 ≤ number (parts_of text).whole = grind (arith, nat_tests) in
    subst (Judges text) (sym (large_at text _ refl whole_is few great)) (judged_large text whole_is few great)
judged_whole text whole_is false e false f =
    let few : length (parts_of text).places ≤ 6 = grind (arith, nat_tests) in
    let below : number (parts_of text).whole < 1000000 = grind (arith, nat_tests) in
    subst (Judges text) (sym (value_at text _ refl whole_is few below)) (judged_value text whole_is few below)

judged_some : (text : List ℕ) → text ≢ [] → (whole : Bool) → is_decimal (parts_of text) ≡ whole → Judges text (decimal_of text)
judged_some text some true e = judged_whole text e _ refl _ refl
judged_some text some false e = subst (Judges text) (sym (bad_at text some e)) (judged_bad text some e)

-- the answer is true of the text
judged : (text : List ℕ) → Judges text (decimal_of text)
judged [] = subst (Judges []) (sym empty_at) judged_empty
judged (byte ∷ text) = judged_some (byte ∷ text) (λ e. cc) _ refl

size : (text : List ℕ) (value : ℤ) (places : ℕ) (w : Writes text value places) → unsigned_abs value ≡ number (w.whole ++ w.fraction)
size text value places w = ap unsigned_abs w.value_is ∙ size_of w.negative (number (w.whole ++ w.fraction))

-- each other answer that is true of the text is the same
only_value : (text : List ℕ) (found value : ℤ) (places : ℕ) → Writes text value places → places ≤ 6 → unsigned_abs value < 1000000 * 10 ^ places → found ≡ value *ℤ pos (10 ^ (6 - places)) → Ok found ≡ decimal_of text
only_value text found value places w few below e =
    let n = number (w.whole ++ w.fraction) in
    let fraction : length w.fraction ≤ 6 = omega (arith, w.places_is) in
    let whole = small_back w.whole w.fraction w.fraction_digits (subst (λ k. n < 1000000 * 10 ^ k) w.places_is (subst (λ m. m < 1000000 * 10 ^ places) (size text value places w) below)) in
    let parts : found ≡ signed w.negative (number w.whole * 1000000 + number w.fraction * 10 ^ (6 - length w.fraction))
    = e ∙ ap (λ v. v *ℤ pos (10 ^ (6 - places))) w.value_is
    ∙ ap (λ k. signed w.negative n *ℤ pos (10 ^ (6 - k))) w.places_is
    ∙ signed_times w.negative n (10 ^ (6 - length w.fraction))
    ∙ ap (signed w.negative) (scaled w.whole w.fraction fraction) in
    ap Ok parts ∙ sym (value_at text _ (writes_parts text value places w) (decimal_parts w.negative w.whole w.fraction w.some) fraction whole)

only_large : (text : List ℕ) (value : ℤ) (places : ℕ) → Writes text value places → places ≤ 6 → 1000000 * 10 ^ places ≤ unsigned_abs value → Err TooLarge ≡ decimal_of text
only_large text value places w few great =
    let n = number (w.whole ++ w.fraction) in
    let fraction : length w.fraction ≤ 6 = omega (arith, w.places_is) in
    let whole = large_back w.whole w.fraction w.fraction_digits (subst (λ k. 1000000 * 10 ^ k ≤ n) w.places_is (subst (λ m. 1000000 * 10 ^ places ≤ m) (size text value places w) great)) in
    sym (large_at text _ (writes_parts text value places w) (decimal_parts w.negative w.whole w.fraction w.some) fraction whole)

only_many : (text : List ℕ) (value : ℤ) (places : ℕ) → Writes text value places → 6 < places → Err TooManyPlaces ≡ decimal_of text
only_many text value places w many =
    sym (many_at text _ (writes_parts text value places w) (decimal_parts w.negative w.whole w.fraction w.some) (omega (arith, w.places_is)))

only_bad : (text : List ℕ) (place : ℕ) → text ≢ [] → IsFirstBad text place → (whole : Bool) → is_decimal (parts_of text) ≡ whole → Err (BadByte place) ≡ decimal_of text
only_bad text place some first true e = absurd (first.outside (_, _, decimal_writes text e))
only_bad text place some first false e = ap (λ n. Err (BadByte n)) (one_bad text place _ first (first_bad text e)) ∙ sym (bad_at text some e)

only : (text : List ℕ) (other : Result ℤ DecimalFault) → Judges text other → other ≡ decimal_of text
unfolding Judges
only text (Ok found) h = only_value text found h.0 h.1 h.2 h.3 h.4 h.5
only text (Err Empty) h = sym (ap decimal_of h ∙ empty_at)
only text (Err (BadByte place)) h = only_bad text place h.0 h.1 _ refl
only text (Err TooManyPlaces) h = only_many text h.0 h.1 h.2 h.3
only text (Err TooLarge) h = only_large text h.0 h.1 h.2 h.3 h.4

-- the answer is the grammar's
is_answer : (text : List ℕ) → IsAnswer text (decimal_of text)
is_answer text = record { judged = judged text; only = only text }

pub answer_is : (text : List ℕ) (answer : Result ℤ DecimalFault) → answer ≡ decimal_of text → IsAnswer text answer
answer_is text answer e = subst (IsAnswer text) (sym e) (is_answer text)
