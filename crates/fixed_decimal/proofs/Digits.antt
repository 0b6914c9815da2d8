-- Digits, the number that they write, and the run of them at the front of a text.
use Rattle.std.proofs.Common.{◌≡◌, ◌∙◌, ap, sym, ℕ, zero, suc, ◌+◌, ◌-◌, ◌*◌, ◌^◌, ◌≤◌, ◌<◌, Bool, true, false, cond, List, [], ◌∷◌, ◌++◌, length, take, get_or, min, refl, arith, length-append, lit<}
use Rattle.std.proofs.Math.Nat.{pow-suc, mul-le-mul_left, mul-le-mul_right}
use Rattle.std.proofs.lemmas.Nat.{pow-add}
use Rattle.std.proofs.lemmas.List.{take_more}
use Rattle.std.proofs.lemmas.Bool.Decides.{nat_tests}
use Rattle.std.specs.List.{prefix_len}
use Rattle.std.specs.Int.{IsInRange}
use Rattle.std.specs.Char.{is_ascii_digit}
use Rattle.fixed_decimal.specs.Parsed.{number, AreDigits}

in_range : (byte : ℕ) → is_ascii_digit byte ≡ true → IsInRange 48 57 byte
in_range byte h = grind (arith, nat_tests)

pub one_more : {n : ℕ} → 1 + n ≡ suc n
one_more {n} = omega arith

digits_step : (found : Bool) (byte : ℕ) (text : List ℕ) → is_ascii_digit byte ≡ found → AreDigits (take (prefix_len is_ascii_digit text) text) → AreDigits (take (cond found (1 + prefix_len is_ascii_digit text) 0) (byte ∷ text))
digits_step true byte text e h = rw one_more (in_range byte e, h)
digits_step false byte text e h = tt

-- the run of digits at the front is digits alone
pub digits_are : (text : List ℕ) → AreDigits (take (prefix_len is_ascii_digit text) text)
digits_are [] = tt
digits_are (byte ∷ text) = digits_step (is_ascii_digit byte) byte text refl (digits_are text)

-- digits before digits
spread : (d p q n r : ℕ) → d * (p * q) + (n * q + r) ≡ (d * p + n) * q + r
spread d p q n r = omega arith

pub number-append : (xs ys : List ℕ) → number (xs ++ ys) ≡ number xs * 10 ^ length ys + number ys
number-append [] ys = grind arith
number-append (x ∷ xs) ys =
    ap (λ n. (x - 48) * 10 ^ n + number (xs ++ ys)) (length-append xs ys)
    ∙ ap (λ p. (x - 48) * p + number (xs ++ ys)) (pow-add 10 (length xs) (length ys))
    ∙ ap (λ n. (x - 48) * (10 ^ length xs * 10 ^ length ys) + n) (number-append xs ys)
    ∙ spread (x - 48) (10 ^ length xs) (10 ^ length ys) (number xs) (number ys)

-- one digit more
pub number_more : (text : List ℕ) (i : ℕ) → i < length text → number (take (i + 1) text) ≡ number (take i text) * 10 + (get_or text i 0 - 48)
number_more text i h = ap number (take_more text i 0 h) ∙ number-append (take i text) (get_or text i 0 ∷ []) ∙ omega arith

below_step : (d n p : ℕ) → d ≤ 9 → n < p → d * p + n < p * 10
below_step d n p small h = omega (arith, mul-le-mul_right p small)

-- digits write less than the power of their count
pub number_lt : (text : List ℕ) → AreDigits text → number text < 10 ^ length text
number_lt [] h = lit< tt
number_lt (x ∷ xs) h = rw (pow-suc 10 (length xs)) (below_step (x - 48) (number xs) (10 ^ length xs) (omega (arith, h.0)) (number_lt xs h.1))

below_product : (n p q r : ℕ) → n < p → 0 < q → p * q ≡ r → n * q < r
below_product n p q r h some e = omega (arith, mul-le-mul_right q h)

pub six_and : (n : ℕ) → n ≤ 6 → 10 ^ n * 10 ^ (6 - n) ≡ 1000000
six_and n few =
    let six : n + (6 - n) ≡ 6 = omega arith in
    sym (pow-add 10 n (6 - n)) ∙ ap (λ k. 10 ^ k) six

pow_some : (n : ℕ) → 0 < 10 ^ n
pow_some zero = lit< tt
pow_some (suc n) = rw (pow-suc 10 n) (let h = pow_some n in omega arith)

-- at most six digits write less than a million millionths
pub places_lt : (text : List ℕ) → AreDigits text → length text ≤ 6 → number text * 10 ^ (6 - length text) < 1000000
places_lt text are few =
    let n = length text in
    below_product (number text) (10 ^ n) (10 ^ (6 - n)) 1000000 (number_lt text are) (pow_some (6 - n)) (six_and n few)

pub power_le : (n : ℕ) → n ≤ 6 → 10 ^ n ≤ 1000000
power_le n few = omega (arith, six_and n few, mul-le-mul_left (10 ^ n) (pow_some (6 - n)))

-- and a number that no cap changes
pub places_uncapped : (text : List ℕ) → AreDigits text → length text ≤ 6 → min (number text) 1000000 ≡ number text
places_uncapped text are few = omega (arith, number_lt text are, power_le (length text) few)

-- each of the digits
pub digit_at : (text : List ℕ) (i : ℕ) → AreDigits text → i < length text → IsInRange 48 57 (get_or text i 0)
digit_at [] i h lt = absurd (omega arith)
digit_at (x ∷ xs) zero h lt = h.0
digit_at (x ∷ xs) (suc i) h lt = digit_at xs i h.1 (omega arith)

pub ruleset number_steps = (number_more, digit_at)

pub ruleset places_steps = (places_lt, places_uncapped, power_le)
