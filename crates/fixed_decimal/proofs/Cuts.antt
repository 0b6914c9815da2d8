-- The parts of a text are the one way to cut it.
use Rattle.std.proofs.Common.{◌≡◌, ◌∙◌, ap, sym, ℕ, ◌+◌, ◌<◌, Bool, true, false, ◌&&◌, cond, nat_lt, ◌==◌, subst, List, [], ◌∷◌, ◌++◌, length, drop, refl, arith}
use Rattle.std.proofs.lemmas.List.{take-append-drop}
use Rattle.std.proofs.Math.Seq.{drop-append_seam, take-append_seam}
use Rattle.std.proofs.lemmas.Bool.Decides.{nat_tests}
use Rattle.std.proofs.lemmas.Bool.{false≢true, true≢false}
use Rattle.std.specs.List.{prefix_len}
use Rattle.std.specs.Int.{IsInRange}
use Rattle.std.specs.Char.{is_ascii_digit}
use Rattle.fixed_decimal.specs.Parsed.{Parts, AreDigits, digits, after_digits, begins_with, past_first, with_places, with_digits, parts_of}
use Rattle.fixed_decimal.specs.Grammar.{minus}
use Rattle.fixed_decimal.proofs.Digits.{digits_are, one_more}

-- a digit stands first
abbrev pub begins_with_digit : List ℕ → Bool
begins_with_digit [] = false
begins_with_digit (first ∷ rest) = is_ascii_digit first

-- a point, or nothing
abbrev pub point : Bool → List ℕ
point true = 46 ∷ []
point false = []

is_digit : (byte : ℕ) → IsInRange 48 57 byte → is_ascii_digit byte ≡ true
is_digit byte h = grind (arith, nat_tests)

is_byte : (a b : ℕ) → (a == b) ≡ true → a ≡ b
is_byte a b e = grind (arith, nat_tests)

and_false : (b : Bool) → (b && false) ≡ true → ⊥
and_false true e = false≢true e
and_false false e = false≢true e

is_point : (b : Bool) (byte : ℕ) → (b && (byte == 46)) ≡ true → byte ≡ 46
is_point true byte e = is_byte byte 46 e
is_point false byte e = absurd (false≢true e)

is_some : (ds : List ℕ) (b : Bool) → (nat_lt 0 (length ds) && b) ≡ true → 0 < length ds
is_some ds b e = grind (arith, nat_tests)

-- digits before what is no digit are the run
pub run : (ds rest : List ℕ) → AreDigits ds → begins_with_digit rest ≡ false → prefix_len is_ascii_digit (ds ++ rest) ≡ length ds
run [] [] h e = refl
run [] (first ∷ rest) h e = rw e refl
run (d ∷ ds) rest h e = rw (is_digit d h.0, run ds rest h.1 e) (omega arith)

pub digits_is : (ds rest : List ℕ) → AreDigits ds → begins_with_digit rest ≡ false → digits (ds ++ rest) ≡ ds
digits_is ds rest h e = rw (run ds rest h e) (take-append_seam ds rest)

pub after_digits_is : (ds rest : List ℕ) → AreDigits ds → begins_with_digit rest ≡ false → after_digits (ds ++ rest) ≡ rest
after_digits_is ds rest h e = rw (run ds rest h e) (drop-append_seam ds rest)

-- what follows the run begins with no digit
after_step : (found : Bool) (first : ℕ) (text : List ℕ) → is_ascii_digit first ≡ found → begins_with_digit (after_digits text) ≡ false
    → begins_with_digit (drop (cond found (1 + prefix_len is_ascii_digit text) 0) (first ∷ text)) ≡ false
after_step true first text e h = rw one_more h
after_step false first text e h = e

pub after_run : (text : List ℕ) → begins_with_digit (after_digits text) ≡ false
after_run [] = refl
after_run (first ∷ text) = after_step (is_ascii_digit first) first text refl (after_run text)

-- the run and what follows it are the text
pub run_and_rest : (text : List ℕ) → digits text ++ after_digits text ≡ text
run_and_rest text = take-append-drop (prefix_len is_ascii_digit text) text

-- How the parts lie in a text, and where each ends.
pub record IsCut (text : List ℕ) (parts : Parts) : Type 0 where
  pub spelled : text ≡ minus parts.negative ++ (parts.whole ++ (point parts.pointed ++ (parts.places ++ parts.rest)))
  pub unsigned : parts.negative ≡ false → begins_with 45 text ≡ false
  pub whole_digits : AreDigits parts.whole
  pub place_digits : AreDigits parts.places
  pub stops : begins_with_digit parts.rest ≡ false
  pub pointed : parts.pointed ≡ true → 0 < length parts.whole
  pub unpointed : parts.pointed ≡ false → (parts.places ≡ []) × ((nat_lt 0 (length parts.whole) && begins_with 46 parts.rest) ≡ false)

-- the parts from a run of digits and what follows it
abbrev pub behind : Bool → List ℕ → List ℕ → Parts
behind negative ds after =
    let pointed = nat_lt 0 (length ds) && begins_with 46 after in
    with_places negative ds pointed (past_first pointed after)

abbrev pub parts_is : Bool → List ℕ → Bool → List ℕ → List ℕ → Parts
parts_is negative whole pointed places rest = record { negative = negative; whole = whole; pointed = pointed; places = places; rest = rest }

behind_point : (negative : Bool) (whole places rest : List ℕ) → 0 < length whole → AreDigits places → begins_with_digit rest ≡ false
    → behind negative whole (46 ∷ (places ++ rest)) ≡ parts_is negative whole true places rest
behind_point negative whole places rest some ds e =
    let yes : nat_lt 0 (length whole) ≡ true = grind (arith, nat_tests) in
    ap (λ b. with_places negative whole (b && true) (past_first (b && true) (46 ∷ (places ++ rest)))) yes
    ∙ ap (λ front. parts_is negative whole true front (after_digits (places ++ rest))) (digits_is places rest ds e)
    ∙ ap (λ back. parts_is negative whole true places back) (after_digits_is places rest ds e)

behind_none : (negative : Bool) (whole rest : List ℕ) → (nat_lt 0 (length whole) && begins_with 46 rest) ≡ false
    → behind negative whole rest ≡ parts_is negative whole false [] rest
behind_none negative whole rest bare = ap (λ b. with_places negative whole b (past_first b rest)) bare

behind_is : (negative : Bool) (whole : List ℕ) (pointed : Bool) (places rest : List ℕ) → AreDigits places → begins_with_digit rest ≡ false
    → (pointed ≡ true → 0 < length whole) → (pointed ≡ false → (places ≡ []) × ((nat_lt 0 (length whole) && begins_with 46 rest) ≡ false))
    → behind negative whole (point pointed ++ (places ++ rest)) ≡ parts_is negative whole pointed places rest
behind_is negative whole true places rest ds e some none = behind_point negative whole places rest (some refl) ds e
behind_is negative whole false places rest ds e some none =
    let empty = (none refl).0 in
    ap (λ front. behind negative whole (front ++ rest)) empty
    ∙ behind_none negative whole rest (none refl).1
    ∙ ap (λ front. parts_is negative whole false front rest) (sym empty)

no_digit_after : (pointed : Bool) (places rest : List ℕ) → begins_with_digit rest ≡ false → (pointed ≡ false → places ≡ []) → begins_with_digit (point pointed ++ (places ++ rest)) ≡ false
no_digit_after true places rest e none = refl
no_digit_after false places rest e none = rw (none refl) e

with_digits_is : (negative : Bool) (whole after : List ℕ) → AreDigits whole → begins_with_digit after ≡ false → with_digits negative (whole ++ after) ≡ behind negative whole after
with_digits_is negative whole after ds e =
    ap (λ front. behind negative front (after_digits (whole ++ after))) (digits_is whole after ds e)
    ∙ ap (λ back. behind negative whole back) (after_digits_is whole after ds e)

signed_is : (negative : Bool) (text tail : List ℕ) → text ≡ minus negative ++ tail → (negative ≡ false → begins_with 45 text ≡ false) → parts_of text ≡ with_digits negative tail
unfolding parts_of
signed_is true text tail e bare = ap (λ t. with_digits (begins_with 45 t) (past_first (begins_with 45 t) t)) e
signed_is false text tail e bare = ap (λ b. with_digits b (past_first b text)) (bare refl) ∙ ap (λ t. with_digits false t) e

-- the parts of a text are the only ones that lie in it so
pub cut_is : (text : List ℕ) (parts : Parts) → IsCut text parts → parts_of text ≡ parts
cut_is text parts cut =
    let after = point parts.pointed ++ (parts.places ++ parts.rest) in
    signed_is parts.negative text (parts.whole ++ after) cut.spelled cut.unsigned
    ∙ with_digits_is parts.negative parts.whole after cut.whole_digits (no_digit_after parts.pointed parts.places parts.rest cut.stops (λ e. (cut.unpointed e).0))
    ∙ behind_is parts.negative parts.whole parts.pointed parts.places parts.rest cut.place_digits cut.stops cut.pointed cut.unpointed

behind_cut : (negative : Bool) (ds after : List ℕ) → AreDigits ds → begins_with_digit after ≡ false
    → (negative ≡ false → begins_with 45 (minus negative ++ (ds ++ after)) ≡ false) → (pointed : Bool) → (nat_lt 0 (length ds) && begins_with 46 after) ≡ pointed
    → IsCut (minus negative ++ (ds ++ after)) (with_places negative ds pointed (past_first pointed after))
behind_cut negative ds [] are e bare true p = absurd (and_false (nat_lt 0 (length ds)) p)
behind_cut negative ds (byte ∷ tail) are e bare true p = record {
  spelled = ap (λ t. minus negative ++ (ds ++ t)) (ap (λ b. b ∷ tail) (is_point (nat_lt 0 (length ds)) byte p) ∙ ap (λ t. 46 ∷ t) (sym (run_and_rest tail)));
  unsigned = bare;
  whole_digits = are;
  place_digits = digits_are tail;
  stops = after_run tail;
  pointed = λ _. is_some ds (begins_with 46 (byte ∷ tail)) p;
  unpointed = λ f. absurd (true≢false f);
}
behind_cut negative ds after are e bare false p = record {
  spelled = refl;
  unsigned = bare;
  whole_digits = are;
  place_digits = tt;
  stops = e;
  pointed = λ t. absurd (true≢false (sym t));
  unpointed = λ _. (refl, p);
}

signed_cut : (text : List ℕ) (negative : Bool) → begins_with 45 text ≡ negative → IsCut text (with_digits negative (past_first negative text))
signed_cut [] true e = absurd (true≢false (sym e))
signed_cut (byte ∷ text) true e =
    let spelled : minus true ++ (digits text ++ after_digits text) ≡ byte ∷ text = ap (λ t. 45 ∷ t) (run_and_rest text) ∙ ap (λ b. b ∷ text) (sym (is_byte byte 45 e)) in
    subst (λ t. IsCut t (with_digits true text)) spelled (behind_cut true (digits text) (after_digits text) (digits_are text) (after_run text) (λ f. absurd (true≢false f)) _ refl)
signed_cut text false e =
    let whole = run_and_rest text in
    subst (λ t. IsCut t (with_digits false text)) whole (behind_cut false (digits text) (after_digits text) (digits_are text) (after_run text) (λ _. ap (begins_with 45) whole ∙ e) _ refl)

-- the parts of a text lie in it so
pub is_cut : (text : List ℕ) → IsCut text (parts_of text)
unfolding parts_of
is_cut text = signed_cut text (begins_with 45 text) refl
