-- Names of a letter and a number below 100, and that those of a drill differ.
use Rattle.std.proofs.Common.{◌≡◌, ◌≢◌, ℕ, ◌+◌, ◌*◌, ◌-◌, ◌/◌, ◌%◌, ◌==◌, ◌≤◌, ◌<◌, Bool, true, false, List, [], ◌∷◌, ◌++◌, map, refl, ap, arith, nat_lt, if◌then◌else◌}
use Rattle.std.proofs.lemmas.Bool.Decides.{nat_tests}
use Rattle.std.specs.Prelude.{AllPairs}
use Rattle.std.specs.List.{AllByRecursion}
use Rattle.std.proofs.lemmas.List.Elements.{All-from_recursion}
use Rattle.std.proofs.lemmas.List.Kept.{AllPairs-cons}
use Rattle.study_model.specs.NameText.{is_name, is_name_byte}
use Rattle.drill_study.specs.Drill.{numbered}

digit : (n : ℕ) → n < 10 → is_name_byte (48 + n) ≡ true
digit n small = grind (arith, nat_tests)

pub short_name : (letter n : ℕ) → is_name_byte letter ≡ true → n < 10 → is_name (letter ∷ (48 + n) ∷ []) ≡ true
short_name letter n first small = let second = digit n small in rw (first, second) refl

pub long_name : (letter n : ℕ) → is_name_byte letter ≡ true → n < 100 → is_name (letter ∷ (48 + n / 10) ∷ (48 + n % 10) ∷ []) ≡ true
long_name letter n first small =
    let tens = digit (n / 10) (omega arith) in
    let ones = digit (n % 10) (omega arith) in
    rw (first, tens, ones) refl

less : (m n : ℕ) → nat_lt m n ≡ true → m < n
less m n h = grind (arith, nat_tests)

-- such a name is one
pub is_numbered : (letter n : ℕ) → is_name_byte letter ≡ true → n < 100 → is_name (numbered letter n) ≡ true
is_numbered letter n first small = by (nat_lt n 10) refl
  where
    by : (t : Bool) → nat_lt n 10 ≡ t → is_name (if t then letter ∷ (48 + n) ∷ [] else letter ∷ (48 + n / 10) ∷ (48 + n % 10) ∷ []) ≡ true
    by true e = short_name letter n first (less n 10 e)
    by false e = long_name letter n first small

-- the place of a name among those of a drill, by its letter and its number
abbrev letter_place : ℕ → ℕ
letter_place letter =
    if letter == 66
    then 0
    else if letter == 83
    then 100
    else if letter == 76
    then 200
    else if letter == 68
    then 300
    else if letter == 75
    then 400
    else if letter == 72
    then 500
    else 600

abbrev pub place_of : List ℕ → ℕ
place_of [] = 0
place_of (letter ∷ []) = 0
place_of (letter ∷ d ∷ []) = letter_place letter + (d - 48)
place_of (letter ∷ d ∷ e ∷ rest) = letter_place letter + 10 * (d - 48) + (e - 48)

pub place_is : (letter n : ℕ) → n < 100 → place_of (numbered letter n) ≡ letter_place letter + n
place_is letter n small = by (nat_lt n 10) refl
  where
    by : (t : Bool) → nat_lt n 10 ≡ t → place_of (if t then letter ∷ (48 + n) ∷ [] else letter ∷ (48 + n / 10) ∷ (48 + n % 10) ∷ []) ≡ letter_place letter + n
    by true e = omega arith
    by false e = omega arith

-- things whose names have ascending places, from lo to below hi
abbrev pub Ascend : {X : Type 0} → (X → List ℕ) → ℕ → ℕ → List X → Type 0
Ascend name lo hi [] = lo ≤ hi
Ascend name lo hi (x ∷ xs) = (lo ≤ place_of (name x)) × Ascend name (place_of (name x) + 1) hi xs

-- they end later than they begin
ends_later : {X : Type 0} (name : X → List ℕ) (lo hi : ℕ) (xs : List X) → Ascend name lo hi xs → lo ≤ hi
ends_later name lo hi [] h = h
ends_later name lo hi (x ∷ xs) h = omega (arith, h.0, ends_later name (place_of (name x) + 1) hi xs h.1)

pub begin_before : {X : Type 0} (name : X → List ℕ) (low lo hi : ℕ) (xs : List X) → low ≤ lo → Ascend name lo hi xs → Ascend name low hi xs
begin_before name low lo hi [] l h = omega (arith, l, h)
begin_before name low lo hi (x ∷ xs) l h = (omega (arith, l, h.0), h.1)

pub ascend_append : {X : Type 0} (name : X → List ℕ) (lo mid hi : ℕ) (xs ys : List X) → Ascend name lo mid xs → Ascend name mid hi ys → Ascend name lo hi (xs ++ ys)
ascend_append name lo mid hi [] ys h g = begin_before name lo mid hi ys h g
ascend_append name lo mid hi (x ∷ xs) ys h g = (h.0, ascend_append name (place_of (name x) + 1) mid hi xs ys h.1 g)

pub ascend_named : {X : Type 0} (name : X → List ℕ) (lo hi : ℕ) (xs : List X) → Ascend name lo hi xs → Ascend (λ (text : List ℕ). text) lo hi (map name xs)
ascend_named name lo hi [] h = h
ascend_named name lo hi (x ∷ xs) h = (h.0, ascend_named name (place_of (name x) + 1) hi xs h.1)

-- names of ascending places differ
later_differ : (name : List ℕ) (lo hi : ℕ) (names : List (List ℕ)) → place_of name < lo → Ascend (λ (text : List ℕ). text) lo hi names → AllByRecursion (λ other. name ≢ other) names
later_differ name lo hi [] before h = tt
later_differ name lo hi (other ∷ names) before h =
    (λ same. let places : place_of name ≡ place_of other = ap place_of same in absurd (omega (arith, h.0, before)), later_differ name (place_of other + 1) hi names (omega (arith, h.0, before)) h.1)

pub names_differ : (lo hi : ℕ) (names : List (List ℕ)) → Ascend (λ (text : List ℕ). text) lo hi names → AllPairs ◌≢◌ names
names_differ lo hi [] h = λ i j d before inside. absurd (omega (arith, inside))
names_differ lo hi (name ∷ names) h =
    AllPairs-cons ◌≢◌ name names (All-from_recursion (λ other. name ≢ other) names (later_differ name (place_of name + 1) hi names (omega arith) h.1)) (names_differ (place_of name + 1) hi names h.1)
