-- The texts of the grammar by their parts.
use Rattle.std.proofs.Common.{◌≡◌, ◌∙◌, ap, sym, subst, ℕ, suc, ◌+◌, ◌-◌, ◌≤◌, ◌<◌, Bool, true, false, ◌&&◌, ◌==◌, nat_lt, List, [], ◌∷◌, ◌++◌, length, take, drop, refl, arith, append_assoc, length-append, ℤ}
use Rattle.std.proofs.lemmas.List.{append-nil, take-append-drop, take-take}
use Rattle.std.proofs.lemmas.Bool.{true≢false}
use Rattle.std.proofs.lemmas.Bool.Decides.{nat_tests}
use Rattle.std.proofs.Math.Seq.{take-append_seam}
use Rattle.fixed_decimal.specs.Parsed.{Parts, AreDigits, number, signed, begins_with, parts_of, is_decimal}
use Rattle.fixed_decimal.specs.Grammar.{minus, point_and, Writes, IsDecimal, BeginsDecimal, IsFirstBad}
use Rattle.fixed_decimal.proofs.Cuts.{begins_with_digit, IsCut, point, parts_is, is_cut, cut_is}

-- digits with a minus or none, and perhaps a point, are in the grammar
spelled_is : (negative : Bool) (whole fraction : List ℕ) → 0 < length whole → AreDigits whole → AreDigits fraction
    → Writes (minus negative ++ (whole ++ point_and fraction)) (signed negative (number (whole ++ fraction))) (length fraction)
spelled_is negative whole fraction some ds es = record {
  negative = negative;
  whole = whole;
  fraction = fraction;
  some = some;
  whole_digits = ds;
  fraction_digits = es;
  spelled = sym (append_assoc (minus negative) whole (point_and fraction));
  value_is = refl;
  places_is = refl;
}

-- a point stands in it
abbrev pub has_point : List ℕ → Bool
has_point [] = false
has_point (digit ∷ digits) = true

point_of : (fraction : List ℕ) → point_and fraction ≡ point (has_point fraction) ++ (fraction ++ [])
point_of [] = refl
point_of (d ∷ ds) = ap (λ t. 46 ∷ d ∷ t) (sym (append-nil ds))

no_minus : (whole rest : List ℕ) → 0 < length whole → AreDigits whole → begins_with 45 (whole ++ rest) ≡ false
no_minus [] rest some ds = absurd (omega arith)
no_minus (d ∷ whole) rest some ds = let h = ds.0 in grind (arith, nat_tests)

unsigned_is : (negative : Bool) (whole rest : List ℕ) → 0 < length whole → AreDigits whole → negative ≡ false → begins_with 45 (minus negative ++ (whole ++ rest)) ≡ false
unsigned_is true whole rest some ds e = absurd (true≢false e)
unsigned_is false whole rest some ds e = no_minus whole rest some ds

and_none : (b : Bool) → (b && false) ≡ false
and_none true = refl
and_none false = refl

pointless : (whole fraction : List ℕ) → has_point fraction ≡ false → (fraction ≡ []) × ((nat_lt 0 (length whole) && begins_with 46 []) ≡ false)
pointless whole [] e = (refl, and_none (nat_lt 0 (length whole)))
pointless whole (d ∷ ds) e = absurd (true≢false e)

-- the parts of a text of the grammar
pub writes_parts : (text : List ℕ) (value : ℤ) (places : ℕ) (w : Writes text value places) → parts_of text ≡ parts_is w.negative w.whole (has_point w.fraction) w.fraction []
writes_parts text value places w =
    let nested = w.spelled ∙ append_assoc (minus w.negative) w.whole (point_and w.fraction) in
    cut_is text (parts_is w.negative w.whole (has_point w.fraction) w.fraction []) record {
      spelled = nested ∙ ap (λ t. minus w.negative ++ (w.whole ++ t)) (point_of w.fraction);
      unsigned = λ e. ap (begins_with 45) nested ∙ unsigned_is w.negative w.whole (point_and w.fraction) w.some w.whole_digits e;
      whole_digits = w.whole_digits;
      place_digits = w.fraction_digits;
      stops = refl;
      pointed = λ _. w.some;
      unpointed = λ e. pointless w.whole w.fraction e;
    }

pub decimal_parts : (negative : Bool) (whole fraction : List ℕ) → 0 < length whole → is_decimal (parts_is negative whole (has_point fraction) fraction []) ≡ true
decimal_parts negative whole [] some = let yes : nat_lt 0 (length whole) ≡ true = grind (arith, nat_tests) in rw yes refl
decimal_parts negative whole (d ∷ ds) some =
    let yes : nat_lt 0 (length whole) ≡ true = grind (arith, nat_tests) in
    let more : nat_lt 0 (suc (length ds)) ≡ true = grind (arith, nat_tests) in
    rw (yes, more) refl

pub is_decimal_of : (text : List ℕ) → IsDecimal text → is_decimal (parts_of text) ≡ true
is_decimal_of text h = ap is_decimal (writes_parts text h.0 h.1 h.2) ∙ decimal_parts h.2.negative h.2.whole h.2.fraction h.2.some

-- what a test says of the parts
record AreWhole (parts : Parts) : Type 0 where
  some : 0 < length parts.whole
  places : parts.pointed ≡ true → 0 < length parts.places
  none : parts.rest ≡ []

none_left : (rest : List ℕ) → (length rest == 0) ≡ true → rest ≡ []
none_left [] e = refl
none_left (b ∷ rest) e = absurd (grind (arith, nat_tests))

are_whole : (parts : Parts) → is_decimal parts ≡ true → AreWhole parts
are_whole parts e = record {
  some = grind (arith, nat_tests);
  places = λ pointed. grind (arith, nat_tests);
  none = none_left parts.rest (grind (arith, nat_tests));
}

point_is : (pointed : Bool) (places : List ℕ) → (pointed ≡ true → 0 < length places) → (pointed ≡ false → places ≡ []) → point pointed ++ places ≡ point_and places
point_is true [] some none = absurd (let h = some refl in omega arith)
point_is true (d ∷ ds) some none = refl
point_is false [] some none = refl
point_is false (d ∷ ds) some none = absurd (let h = none refl in cc)

-- the text that parts with nothing left write
pub decimal_writes : (text : List ℕ) → is_decimal (parts_of text) ≡ true → Writes text (signed (parts_of text).negative (number ((parts_of text).whole ++ (parts_of text).places))) (length (parts_of text).places)
decimal_writes text e =
    let parts = parts_of text in
    let cut = is_cut text in
    let are = are_whole parts e in
    record {
      negative = parts.negative;
      whole = parts.whole;
      fraction = parts.places;
      some = are.some;
      whole_digits = cut.whole_digits;
      fraction_digits = cut.place_digits;
      spelled = cut.spelled
          ∙ ap (λ t. minus parts.negative ++ (parts.whole ++ (point parts.pointed ++ (parts.places ++ t)))) are.none
          ∙ ap (λ t. minus parts.negative ++ (parts.whole ++ (point parts.pointed ++ t))) (append-nil parts.places)
          ∙ ap (λ t. minus parts.negative ++ (parts.whole ++ t)) (point_is parts.pointed parts.places are.places (λ f. (cut.unpointed f).0))
          ∙ sym (append_assoc (minus parts.negative) parts.whole (point_and parts.places));
      value_is = refl;
      places_is = refl;
    }

-- some text of the grammar begins with what stands before the rest
digit_after : (negative : Bool) (front : List ℕ) (whole fraction : List ℕ) → front ≡ minus negative ++ (whole ++ point_and fraction) → 0 < length whole → AreDigits whole → AreDigits fraction → IsDecimal front
digit_after negative front whole fraction e some ds es =
    subst (λ t. IsDecimal t) (sym e) (signed negative (number (whole ++ fraction)), length fraction, spelled_is negative whole fraction some ds es)

front_begins : (negative : Bool) (whole : List ℕ) (pointed : Bool) (places : List ℕ) → AreDigits whole → AreDigits places
    → (pointed ≡ true → 0 < length whole) → (pointed ≡ false → places ≡ []) → BeginsDecimal (minus negative ++ (whole ++ (point pointed ++ places)))
front_begins negative [] true places ds es some none = absurd (let h = some refl in omega arith)
front_begins negative [] false [] ds es some none = (48 ∷ [], digit_after negative _ (48 ∷ []) [] (append_assoc (minus negative) [] (48 ∷ [])) (omega arith) ((omega arith, omega arith), tt) tt)
front_begins negative [] false (x ∷ xs) ds es some none = absurd (let h = none refl in cc)
front_begins negative (d ∷ whole) true [] ds es some none = (48 ∷ [], digit_after negative _ (d ∷ whole) (48 ∷ []) (append_assoc (minus negative) (d ∷ (whole ++ (46 ∷ []))) (48 ∷ []) ∙ ap (λ t. minus negative ++ (d ∷ t)) (append_assoc whole (46 ∷ []) (48 ∷ []))) (omega arith) ds ((omega arith, omega arith), tt))
front_begins negative (d ∷ whole) true (x ∷ xs) ds es some none = ([], digit_after negative _ (d ∷ whole) (x ∷ xs) (append-nil _) (omega arith) ds es)
front_begins negative (d ∷ whole) false [] ds es some none = ([], digit_after negative _ (d ∷ whole) [] (append-nil _) (omega arith) ds tt)
front_begins negative (d ∷ whole) false (x ∷ xs) ds es some none = absurd (let h = none refl in cc)

-- what stands before the rest
abbrev pub front_of : Parts → List ℕ
front_of parts = minus parts.negative ++ (parts.whole ++ (point parts.pointed ++ parts.places))

spread_out : (a b c d e : List ℕ) → a ++ (b ++ (c ++ (d ++ e))) ≡ (a ++ (b ++ (c ++ d))) ++ e
spread_out a b c d e = sym (append_assoc a (b ++ (c ++ d)) e ∙ ap (λ t. a ++ t) (append_assoc b (c ++ d) e ∙ ap (λ t. b ++ t) (append_assoc c d e)))

text_is : (text : List ℕ) → text ≡ front_of (parts_of text) ++ (parts_of text).rest
text_is text =
    let parts = parts_of text in
    (is_cut text).spelled ∙ spread_out (minus parts.negative) parts.whole (point parts.pointed) parts.places parts.rest

first_same : (byte : ℕ) (front : List ℕ) (first : ℕ) (xs ys : List ℕ) → begins_with byte (front ++ (first ∷ xs)) ≡ begins_with byte (front ++ (first ∷ ys))
first_same byte [] first xs ys = refl
first_same byte (f ∷ front) first xs ys = refl

-- the parts with another rest
abbrev with_rest : Parts → List ℕ → Parts
with_rest parts rest = record parts { rest = rest }

-- another rest with the same first byte is cut off likewise
other_rest : (text : List ℕ) (parts : Parts) (first : ℕ) (rest more : List ℕ) → IsCut text parts → text ≡ front_of parts ++ (first ∷ rest) → parts.rest ≡ first ∷ rest
    → IsCut (front_of parts ++ (first ∷ more)) (with_rest parts (first ∷ more))
other_rest text parts first rest more cut whole e = record {
  spelled = sym (spread_out (minus parts.negative) parts.whole (point parts.pointed) parts.places (first ∷ more));
  unsigned = λ f. first_same 45 (front_of parts) first more rest ∙ ap (begins_with 45) (sym whole) ∙ cut.unsigned f;
  whole_digits = cut.whole_digits;
  place_digits = cut.place_digits;
  stops = ap begins_with_digit (sym e) ∙ cut.stops;
  pointed = cut.pointed;
  unpointed = λ f. ((cut.unpointed f).0, ap (λ t. nat_lt 0 (length parts.whole) && begins_with 46 t) (sym e) ∙ (cut.unpointed f).1);
}

-- no text of the grammar goes on with the byte of the rest
no_more : (text : List ℕ) (first : ℕ) (rest more : List ℕ) → (parts_of text).rest ≡ first ∷ rest → ¬ (IsDecimal (front_of (parts_of text) ++ (first ∷ more)))
no_more text first rest more e h =
    let parts = parts_of text in
    let other = front_of parts ++ (first ∷ more) in
    let cut = other_rest text parts first rest more (is_cut text) (text_is text ∙ ap (λ t. front_of parts ++ t) e) e in
    let yes = ap is_decimal (sym (cut_is other (with_rest parts (first ∷ more)) cut)) ∙ is_decimal_of other h in
    let none = (are_whole (with_rest parts (first ∷ more)) yes).none in
    cc

take_front : (front rest : List ℕ) → take (length (front ++ rest) - length rest) (front ++ rest) ≡ front
take_front front rest =
    let e : length (front ++ rest) - length rest ≡ length front = omega (arith, length-append front rest) in
    ap (λ n. take n (front ++ rest)) e ∙ take-append_seam front rest

one_after : (front : List ℕ) (first : ℕ) (rest : List ℕ) → take (length (front ++ (first ∷ rest)) - length (first ∷ rest) + 1) (front ++ (first ∷ rest)) ≡ front ++ (first ∷ [])
one_after front first rest =
    let e : length (front ++ (first ∷ rest)) - length (first ∷ rest) + 1 ≡ length (front ++ (first ∷ [])) = omega (arith, length-append front (first ∷ rest), length-append front (first ∷ [])) in
    ap (λ n. take n (front ++ (first ∷ rest))) e ∙ ap (λ t. take (length (front ++ (first ∷ []))) t) (sym (append_assoc front (first ∷ []) rest)) ∙ take-append_seam (front ++ (first ∷ [])) rest

bad_after : (front rest : List ℕ) → ((first : ℕ) (back more : List ℕ) → rest ≡ first ∷ back → ¬ (IsDecimal (front ++ (first ∷ more))))
    → length (front ++ rest) - length rest < length (front ++ rest) → ¬ (BeginsDecimal (take (length (front ++ rest) - length rest + 1) (front ++ rest)))
bad_after front [] none lt h = absurd (omega (arith, length-append {A = ℕ} front []))
bad_after front (first ∷ rest) none lt h =
    let more = h.0 in
    none first rest more refl (subst (λ t. IsDecimal t) (ap (λ t. t ++ more) (one_after front first rest) ∙ append_assoc front (first ∷ []) more) h.1)

bad_at : (text front rest : List ℕ) → text ≡ front ++ rest → ¬ (IsDecimal text) → BeginsDecimal front
    → ((first : ℕ) (back more : List ℕ) → rest ≡ first ∷ back → ¬ (IsDecimal (front ++ (first ∷ more)))) → IsFirstBad text (length text - length rest)
bad_at text front rest e outside begins none = record {
  outside = outside;
  within = omega arith;
  front = subst (λ t. BeginsDecimal (take (length t - length rest) t)) (sym e) (subst (λ t. BeginsDecimal t) (sym (take_front front rest)) begins);
  bad = subst (λ t. length t - length rest < length t → ¬ (BeginsDecimal (take (length t - length rest + 1) t))) (sym e) (bad_after front rest none);
}

-- where the parts are no decimal, the rest begins with the first bad byte
pub first_bad : (text : List ℕ) → is_decimal (parts_of text) ≡ false → IsFirstBad text (length text - length (parts_of text).rest)
first_bad text e =
    let parts = parts_of text in
    let cut = is_cut text in
    bad_at text (front_of parts) parts.rest (text_is text)
    (λ h. absurd (true≢false (sym (is_decimal_of text h) ∙ e)))
    (front_begins parts.negative parts.whole parts.pointed parts.places cut.whole_digits cut.place_digits cut.pointed (λ f. (cut.unpointed f).0))
    (λ first back more f. no_more text first back more f)

begins_less : (front more : List ℕ) → BeginsDecimal (front ++ more) → BeginsDecimal front
begins_less front more h = (more ++ h.0, subst (λ t. IsDecimal t) (append_assoc front more h.0) h.1)

begins_sooner : (text : List ℕ) (m n : ℕ) → m ≤ n → BeginsDecimal (take n text) → BeginsDecimal (take m text)
begins_sooner text m n le h =
    let e : take n text ≡ take m text ++ drop m (take n text) = sym (take-append-drop m (take n text)) ∙ ap (λ t. t ++ drop m (take n text)) (take-take m n text le) in
    begins_less (take m text) (drop m (take n text)) (subst (λ t. BeginsDecimal t) e h)

not_before : (text : List ℕ) (m n : ℕ) → IsFirstBad text m → IsFirstBad text n → ¬ (m < n)
not_before text m n h k lt = h.bad (omega (arith, k.within)) (begins_sooner text (m + 1) n (omega arith) k.front)

-- there is one such place
pub one_bad : (text : List ℕ) (m n : ℕ) → IsFirstBad text m → IsFirstBad text n → m ≡ n
one_bad text m n h k =
    let below : ¬ (m < n) = λ lt. not_before text m n h k lt in
    let above : ¬ (n < m) = λ lt. not_before text n m k h lt in
    omega arith
