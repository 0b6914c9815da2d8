-- Names that differ, and the elements that have an end at a bus.
use Rattle.std.proofs.Common.{◌≡◌, ◌≢◌, ◌≤◌, ◌+◌, ◌-◌, ◌++◌, ◌⊎◌, ⊎_elim, ℕ, suc, Bool, true, false, ◌||◌, if◌then◌else◌, nat_eq, List, [], ◌∷◌, Option, Some, None, refl, arith, subst, All, AllPairs, IsSomeAnd, slice_get, bytes_eq, map, append_assoc}
use mathlib.Core.Logic.{inl, inr}
use Rattle.std.proofs.lemmas.Bool.{and_parts, or_cases}
use Rattle.std.proofs.lemmas.Bool.Decides.{nat_tests}
use Rattle.std.proofs.lemmas.List.{map-append}
use Rattle.std.proofs.lemmas.List.Elements.{All-cons, All-nil}
use Rattle.std.proofs.lemmas.List.Quantifiers.{all_pairs_push}
use Rattle.std.proofs.lemmas.Slice.Eq.{bytes_eq-Decides}
use Rattle.study_reader.specs.Checks.{name_at}
use Rattle.study_reader.specs.Points.{is_element, element_at}
use Rattle.study_reader.specs.Lawful.{IsFresh, Ends, Reaches}
use Rattle.study_reader.specs.declared.context.Element.{Element}

unequal : (x name : List ℕ) → bytes_eq x name ≡ false → x ≢ name
unequal x name e same = let yes : bytes_eq x name ≡ true = (bytes_eq-Decides x name).1 same in absurd (cc)

pub none_of : (t : Bool) (n : ℕ) (rest : Option ℕ) → (if t then Some n else rest) ≡ None → (t ≡ false) × (rest ≡ None)
none_of true n rest e = absurd (cc)
none_of false n rest e = (refl, e)

pub some_of : (t : Bool) (n m : ℕ) (rest : Option ℕ) → (if t then Some n else rest) ≡ Some m → ((t ≡ true) × (n ≡ m)) ⊎ (rest ≡ Some m)
some_of true n m rest e = inl (refl, cc)
some_of false n m rest e = inr e

absent : (n : ℕ) (names : List (List ℕ)) (name : List ℕ) → name_at n names name ≡ None → All (λ (other : List ℕ). other ≢ name) names
absent n [] name e = All-nil (λ (other : List ℕ). other ≢ name)
absent n (x ∷ xs) name e =
    let parts = none_of (bytes_eq x name) n (name_at (n + 1) xs name) e in
    All-cons (λ (other : List ℕ). other ≢ name) x xs (unequal x name parts.0) (absent (n + 1) xs name parts.1)

-- a name that isn't found differs from all
pub fresh : (names : List (List ℕ)) (name : List ℕ) → name_at 0 names name ≡ None → IsFresh names name
fresh names name e = record { differs = absent 0 names name e }

-- a fresh name is pushed to names that differ
pub distinct_push : (names : List (List ℕ)) (name : List ℕ) → AllPairs ◌≢◌ names → IsFresh names name → AllPairs ◌≢◌ (names ++ name ∷ [])
distinct_push names name d f = all_pairs_push ◌≢◌ names name d f.differs

-- and so are the names of entries
pub named_push : {A : Type 0} (name_in : A → List ℕ) (before names names' : List (List ℕ)) (made made' : List A) (e : A) → names ≡ before ++ map name_in made
    → names' ≡ names ++ name_in e ∷ [] → made' ≡ made ++ e ∷ [] → names' ≡ before ++ map name_in made'
named_push name_in before names names' made made' e is is_names is_made = rw (is_names, is_made, is, map-append) (append_assoc before (map name_in made) (name_in e ∷ []))

eq_of : (m n : ℕ) → nat_eq m n ≡ true → m ≡ n
eq_of m n h = grind (arith, nat_tests)

ends_of : (name : List ℕ) (bus : ℕ) (e : Element) → is_element name bus e ≡ true → Ends bus e
ends_of name bus e h =
    let both = and_parts (bytes_eq e.name name) (nat_eq e.from bus || nat_eq e.to bus) h in
    ⊎_elim (λ from. inl (eq_of e.from bus from)) (λ to. inr (eq_of e.to bus to)) (or_cases (nat_eq e.from bus) (nat_eq e.to bus) both.1)

at_head : (e : Element) (es : List Element) (bus n m : ℕ) → n ≡ m → Ends bus e → (n ≤ m) × IsSomeAnd (slice_get (e ∷ es) (m - n)) (Ends bus)
at_head e es bus n m same h =
    let none : 0 ≡ m - n = omega arith in
    (omega arith, subst (λ (k : ℕ). IsSomeAnd (slice_get (e ∷ es) k) (Ends bus)) none h)

behind : (e : Element) (es : List Element) (bus n m : ℕ) → (n + 1 ≤ m) × IsSomeAnd (slice_get es (m - (n + 1))) (Ends bus)
    → (n ≤ m) × IsSomeAnd (slice_get (e ∷ es) (m - n)) (Ends bus)
behind e es bus n m h =
    let less : n + 1 ≤ m = h.0 in
    let one : suc (m - (n + 1)) ≡ m - n = omega (arith, less) in
    (omega (arith, less), subst (λ (k : ℕ). IsSomeAnd (slice_get (e ∷ es) k) (Ends bus)) one h.1)

found : (n : ℕ) (es : List Element) (name : List ℕ) (bus m : ℕ) → element_at n es name bus ≡ Some m → (n ≤ m) × IsSomeAnd (slice_get es (m - n)) (Ends bus)
found n [] name bus m e = absurd (cc)
found n (x ∷ xs) name bus m e =
    ⊎_elim (λ head. at_head x xs bus n m head.1 (ends_of name bus x head.0)) (λ rest. behind x xs bus n m (found (n + 1) xs name bus m rest))
    (some_of (is_element name bus x) n m (element_at (n + 1) xs name bus) e)

-- the element that is found has an end at the bus
pub reaches : (es : List Element) (name : List ℕ) (bus m : ℕ) → element_at 1 es name bus ≡ Some m → Reaches es bus m
reaches es name bus m e = let p = found 1 es name bus m e in record { counted = p.0; ends = p.1 }
