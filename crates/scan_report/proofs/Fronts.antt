-- A field of a text, and what stands after it.
use Rattle.std.proofs.Common.{◌≡◌, ◌∙◌, ap, sym, ℕ, ◌+◌, ◌*◌, ◌/◌, ◌%◌, ◌^◌, ◌≤◌, ◌<◌, true, false, ◌&&◌, List, [], ◌∷◌, ◌++◌, length, drop, min, refl, arith, length-append, append_assoc}
use Rattle.std.proofs.lemmas.Fmt.{decimal_by_steps_wide}
use Rattle.std.proofs.lemmas.Bool.{and_parts}
use Rattle.std.proofs.lemmas.Bool.Decides.{nat_tests}
use Rattle.std.proofs.lemmas.List.Folds.{prefix_len-append}
use Rattle.std.proofs.Math.Seq.{drop-append_seam, take-append_seam}
use Rattle.std.specs.Prelude.{◌==◌, nat_le}
use Rattle.std.specs.Fmt.{decimal}
use Rattle.std.specs.List.{prefix_len, fold, list_all}
use Rattle.study_model.specs.NameText.{is_name, is_name_byte}
use Rattle.scan_report.specs.Text.{places, six_digits, four_places, four_digits}
use Rattle.scan_report.specs.Loose.{is_inner, field_of, after_field, digit_on, number_of, first_of}

-- no byte of it ends a field
pub record Inner (x : List ℕ) : Type 0 where
  pub is : prefix_len is_inner x ≡ length x

same : (n : ℕ) → (n == n) ≡ true
same n = grind (arith, nat_tests)

front_len : (x y : List ℕ) → Inner x → prefix_len is_inner (x ++ y) ≡ length x + prefix_len is_inner y
front_len x y h = rw (prefix_len-append is_inner x y, h.is, same (length x)) refl

pub Inner-append : (x y : List ℕ) → Inner x → Inner y → Inner (x ++ y)
Inner-append x y h k = record { is = front_len x y h ∙ ap (λ n. length x + n) k.is ∙ sym (length-append x y) }

ends_at : (x y : List ℕ) (c : ℕ) → Inner x → is_inner c ≡ false → prefix_len is_inner (x ++ c ∷ y) ≡ length x
ends_at x y c h e = front_len x (c ∷ y) h ∙ rw e (omega arith)

pub field_front : (x y : List ℕ) (c : ℕ) → Inner x → is_inner c ≡ false → field_of (x ++ c ∷ y) ≡ x
unfolding field_of
field_front x y c h e = rw (ends_at x y c h e) (take-append_seam x (c ∷ y))

drop_past : (x y : List ℕ) (c : ℕ) → drop (length x + 1) (x ++ c ∷ y) ≡ y
drop_past x y c = let s = drop-append_seam (x ++ c ∷ []) y in rw (length-append, append_assoc) at s

pub after_front : (x y : List ℕ) (c : ℕ) → Inner x → is_inner c ≡ false → after_field (x ++ c ∷ y) ≡ y
unfolding after_field
after_front x y c h e = rw (ends_at x y c h e) (drop_past x y c)

-- digits are inner
inner_digit : (d : ℕ) → d < 10 → Inner ((48 + d) ∷ [])
inner_digit d h =
    let e : is_inner (48 + d) ≡ true = grind (arith, nat_tests) in
    record { is = rw e refl }

pub Inner-decimal : (n : ℕ) → n < 10 ^ 64 → Inner (decimal n)
Inner-decimal n h = decimal_by_steps_wide (λ k ds. Inner ds) inner_digit (λ k ds big rest. Inner-append ds ((48 + k % 10) ∷ []) rest (inner_digit (k % 10) (omega arith))) n h

inner_one : (b : ℕ) (x : List ℕ) → is_inner b ≡ true → Inner x → Inner (b ∷ x)
inner_one b x e h = record { is = rw e (ap (λ n. 1 + n) h.is ∙ omega arith) }

six_one : (d : ℕ) (x : List ℕ) → d < 10 → Inner x → Inner ((48 + d) ∷ x)
six_one d x small h =
    let e : is_inner (48 + d) ≡ true = grind (arith, nat_tests) in
    inner_one (48 + d) x e h

none : Inner []
none = record { is = refl }

pub Inner-six : (n : ℕ) → Inner (six_digits n)
Inner-six n =
    six_one (n / 100000 % 10) _ (omega arith) (six_one (n / 10000 % 10) _ (omega arith) (six_one (n / 1000 % 10) _ (omega arith)
    (six_one (n / 100 % 10) _ (omega arith) (six_one (n / 10 % 10) _ (omega arith) (six_one (n % 10) _ (omega arith) none)))))

pub Inner-places : (n : ℕ) → n < 10 ^ 64 → Inner (places n)
Inner-places n h = Inner-append (decimal (n / 1000000)) (46 ∷ six_digits (n % 1000000)) (Inner-decimal (n / 1000000) (omega arith)) (inner_one 46 (six_digits (n % 1000000)) refl (Inner-six (n % 1000000)))

Inner-four : (n : ℕ) → Inner (four_digits n)
Inner-four n = six_one (n / 1000 % 10) _ (omega arith) (six_one (n / 100 % 10) _ (omega arith) (six_one (n / 10 % 10) _ (omega arith) (six_one (n % 10) _ (omega arith) none)))

pub Inner-four_places : (n : ℕ) → n < 10 ^ 64 → Inner (four_places n)
Inner-four_places n h = Inner-append (decimal (n / 10000)) (46 ∷ four_digits (n % 10000)) (Inner-decimal (n / 10000) (omega arith)) (inner_one 46 (four_digits (n % 10000)) refl (Inner-four (n % 10000)))

-- a name's bytes are inner
inner_byte : (b : ℕ) → is_name_byte b ≡ true → is_inner b ≡ true
inner_byte b h = grind (arith, nat_tests)

inner_bytes : (x : List ℕ) → list_all is_name_byte x ≡ true → Inner x
inner_bytes [] h = none
inner_bytes (b ∷ x) h =
    let parts = and_parts (is_name_byte b) (list_all is_name_byte x) h in
    inner_one b x (inner_byte b parts.0) (inner_bytes x parts.1)

pub Inner-name : (x : List ℕ) → is_name x ≡ true → Inner x
Inner-name x h = inner_bytes x (and_parts (nat_le 1 (length x) && nat_le (length x) 32) (list_all is_name_byte x) h).1

-- the number of digits
fold-append : (x y : List ℕ) (v : ℕ) → fold digit_on v (x ++ y) ≡ fold digit_on (fold digit_on v x) y
fold-append [] y v = refl
fold-append (b ∷ x) y v = fold-append x y (digit_on v b)

digit_value : (v d : ℕ) → d < 10 → digit_on v (48 + d) ≡ min (min v (10 ^ 37) * 10 + d) (10 ^ 37)
digit_value v d h =
    let e : ((48 + d) == 46) ≡ false = grind (arith, nat_tests) in
    rw e (omega arith)

pub record Reads (x : List ℕ) (n : ℕ) : Type 0 where
  pub is : fold digit_on 0 x ≡ min n (10 ^ 37)

one_read : (d : ℕ) → d < 10 → Reads ((48 + d) ∷ []) d
one_read d h = record { is = digit_value 0 d h ∙ omega arith }

capped : (v d : ℕ) → min (min (min v (10 ^ 37)) (10 ^ 37) * 10 + d) (10 ^ 37) ≡ min (v * 10 + d) (10 ^ 37)
capped v d = omega arith

more_read : (x : List ℕ) (v d : ℕ) → d < 10 → Reads x v → Reads (x ++ (48 + d) ∷ []) (v * 10 + d)
more_read x v d h r = record { is = fold-append x ((48 + d) ∷ []) 0 ∙ ap (λ w. digit_on w (48 + d)) r.is ∙ digit_value (min v (10 ^ 37)) d h ∙ capped v d }

subst_reads : (x : List ℕ) (m n : ℕ) → m ≡ n → Reads x m → Reads x n
subst_reads x m n e r = rw (← e) r

pub Reads-decimal : (n : ℕ) → n < 10 ^ 64 → Reads (decimal n) n
Reads-decimal n h = decimal_by_steps_wide (λ k ds. Reads ds k) one_read
    (λ k ds big rest. subst_reads (ds ++ (48 + k % 10) ∷ []) (k / 10 * 10 + k % 10) k (omega arith) (more_read ds (k / 10) (k % 10) (omega arith) rest)) n h

point_read : (x : List ℕ) (v : ℕ) → Reads x v → Reads (x ++ 46 ∷ []) v
point_read x v r = record { is = fold-append x (46 ∷ []) 0 ∙ r.is }

joined : (x : List ℕ) (b : ℕ) (y : List ℕ) (n : ℕ) → Reads ((x ++ b ∷ []) ++ y) n → Reads (x ++ b ∷ y) n
joined x b y n r = rw append_assoc at r

then_digit : (x y : List ℕ) (v d n : ℕ) → d < 10 → Reads x v → ((z : List ℕ) → Reads z (v * 10 + d) → Reads (z ++ y) n) → Reads (x ++ (48 + d) ∷ y) n
then_digit x y v d n h r next = joined x (48 + d) y n (next (x ++ (48 + d) ∷ []) (more_read x v d h r))

last_digit : (x : List ℕ) (v d n : ℕ) → d < 10 → v * 10 + d ≡ n → Reads x v → Reads (x ++ (48 + d) ∷ []) n
last_digit x v d n h e r = subst_reads (x ++ (48 + d) ∷ []) (v * 10 + d) n e (more_read x v d h r)

-- six digits after a number
six_read : (x : List ℕ) (v n : ℕ) → n < 1000000 → Reads x v → Reads (x ++ six_digits n) (v * 1000000 + n)
six_read x v n h r =
    then_digit x _ v (n / 100000 % 10) _ (omega arith) r (λ z q.
    then_digit z _ _ (n / 10000 % 10) _ (omega arith) q (λ z q.
    then_digit z _ _ (n / 1000 % 10) _ (omega arith) q (λ z q.
    then_digit z _ _ (n / 100 % 10) _ (omega arith) q (λ z q.
    then_digit z _ _ (n / 10 % 10) _ (omega arith) q (λ z q.
    last_digit z _ (n % 10) _ (omega arith) (omega arith) q)))))

pub Reads-places : (n : ℕ) → n < 10 ^ 64 → Reads (places n) n
Reads-places n h =
    let front = point_read (decimal (n / 1000000)) (n / 1000000) (Reads-decimal (n / 1000000) (omega arith)) in
    subst_reads (places n) (n / 1000000 * 1000000 + n % 1000000) n (omega arith)
    (joined (decimal (n / 1000000)) 46 (six_digits (n % 1000000)) _ (six_read (decimal (n / 1000000) ++ 46 ∷ []) (n / 1000000) (n % 1000000) (omega arith) front))

-- four digits after a number
four_read : (x : List ℕ) (v n : ℕ) → n < 10000 → Reads x v → Reads (x ++ four_digits n) (v * 10000 + n)
four_read x v n h r =
    then_digit x _ v (n / 1000 % 10) _ (omega arith) r (λ z q.
    then_digit z _ _ (n / 100 % 10) _ (omega arith) q (λ z q.
    then_digit z _ _ (n / 10 % 10) _ (omega arith) q (λ z q.
    last_digit z _ (n % 10) _ (omega arith) (omega arith) q)))

pub Reads-four_places : (n : ℕ) → n < 10 ^ 64 → Reads (four_places n) n
Reads-four_places n h =
    let front = point_read (decimal (n / 10000)) (n / 10000) (Reads-decimal (n / 10000) (omega arith)) in
    subst_reads (four_places n) (n / 10000 * 10000 + n % 10000) n (omega arith)
    (joined (decimal (n / 10000)) 46 (four_digits (n % 10000)) _ (four_read (decimal (n / 10000) ++ 46 ∷ []) (n / 10000) (n % 10000) (omega arith) front))

pub number_is : (x : List ℕ) (n : ℕ) → Reads x n → n ≤ 10 ^ 37 → number_of x ≡ n
unfolding number_of
number_is x n r h = r.is ∙ omega arith

-- a digit
record IsDigit (byte : ℕ) : Type 0 where
  least : 48 ≤ byte
  most : byte ≤ 57

-- a digit begins a number
record DigitFirst (x : List ℕ) : Type 0 where
  is : (y : List ℕ) → IsDigit (first_of (x ++ y))

digit_first : (d : ℕ) → d < 10 → DigitFirst ((48 + d) ∷ [])
digit_first d h = record { is = λ y. record { least = omega arith; most = omega arith } }

digit_more : (x z : List ℕ) → DigitFirst x → DigitFirst (x ++ z)
digit_more x z r = record { is = λ y. rw append_assoc (r.is (z ++ y)) }

decimal_digit_first : (n : ℕ) → n < 10 ^ 64 → DigitFirst (decimal n)
decimal_digit_first n h = decimal_by_steps_wide (λ k ds. DigitFirst ds) digit_first (λ k ds big rest. digit_more ds ((48 + k % 10) ∷ []) rest) n h

places_digit : (n : ℕ) → n < 10 ^ 64 → IsDigit (first_of (places n))
places_digit n h = (decimal_digit_first (n / 1000000) (omega arith)).is (46 ∷ six_digits (n % 1000000))

no_dash : (byte : ℕ) → IsDigit byte → (byte == 45) ≡ false
no_dash byte h = let least = h.least in grind (arith, nat_tests)

no_letter : (byte : ℕ) → IsDigit byte → (byte == 99) ≡ false
no_letter byte h = let most = h.most in grind (arith, nat_tests)

-- neither a dash nor the letter of a curve
pub places_no_dash : (n : ℕ) → n < 10 ^ 64 → (first_of (places n) == 45) ≡ false
places_no_dash n h = no_dash (first_of (places n)) (places_digit n h)

pub places_no_letter : (n : ℕ) → n < 10 ^ 64 → (first_of (places n) == 99) ≡ false
places_no_letter n h = no_letter (first_of (places n)) (places_digit n h)
