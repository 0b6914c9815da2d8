-- Numbers in a row, of which some are taken.
use Rattle.std.proofs.Common.{◌≡◌, ◌∙◌, ap, sym, subst, ℕ, zero, suc, ◌+◌, ◌-◌, ◌<◌, Bool, true, false, List, [], ◌∷◌, ◌++◌, map, append_assoc, refl, arith}
use Rattle.std.specs.Prelude.{if◌then◌else◌, Result, Ok, Err, OnOk}
use Rattle.std.specs.List.{range_with_len, filter, AllByRecursion}
use Rattle.limits_report.proofs.Everywhere.{joined}

pub no_range : (a n : ℕ) → n ≡ 0 → range_with_len a n ≡ []
no_range a n e = rw e refl

range_step : (a n : ℕ) → 0 < n → range_with_len a n ≡ a ∷ range_with_len (a + 1) (n - 1)
range_step a zero h = absurd (omega arith)
range_step a (suc n) h = let e : n ≡ suc n - 1 = omega arith in ap (λ m. a ∷ range_with_len (a + 1) m) e

first_apart : (p : ℕ → Bool) (x : ℕ) (xs : List ℕ) → filter p (x ∷ xs) ≡ filter p (x ∷ []) ++ filter p xs
first_apart p x xs =
    elim (p x) as (λ b. (if b then x ∷ filter p xs else filter p xs) ≡ (if b then x ∷ [] else []) ++ filter p xs) [ true ↦ refl | false ↦ refl ]

map_parts : {Y : Type 0} (f : ℕ → Y) (xs ys : List ℕ) → map f (xs ++ ys) ≡ map f xs ++ map f ys
map_parts f [] ys = refl
map_parts f (x ∷ xs) ys = ap (λ zs. f x ∷ zs) (map_parts f xs ys)

-- the numbers that are taken: the first, if it is, and those after it
taken : (p : ℕ → Bool) (a n : ℕ) → 0 < n → filter p (range_with_len a n) ≡ filter p (a ∷ []) ++ filter p (range_with_len (a + 1) (n - 1))
taken p a n h = ap (filter p) (range_step a n h) ∙ first_apart p a (range_with_len (a + 1) (n - 1))

on_ok : {T E : Type 0} (r : Result T E) {P Q : Type 0} → (P → Q) → OnOk r P → OnOk r Q
on_ok (Ok x) f h = f h
on_ok (Err e) f h = tt

pub table_of_more : {T E Y : Type 0} (r : Result T E) (f : ℕ → Y) (p : ℕ → Bool) (a n : ℕ) (old mid new : List Y) → 0 < n → mid ≡ old ++ map f (filter p (a ∷ []))
    → OnOk r (new ≡ mid ++ map f (filter p (range_with_len (a + 1) (n - 1)))) → OnOk r (new ≡ old ++ map f (filter p (range_with_len a n)))
table_of_more r f p a n old mid new some e h =
    let first = map f (filter p (a ∷ [])) in
    let rest = map f (filter p (range_with_len (a + 1) (n - 1))) in
    let all : first ++ rest ≡ map f (filter p (range_with_len a n)) = sym (ap (map f) (taken p a n some) ∙ map_parts f (filter p (a ∷ [])) (filter p (range_with_len (a + 1) (n - 1)))) in
    on_ok r (λ k. k ∙ ap (λ xs. xs ++ rest) e ∙ append_assoc old first rest ∙ ap (λ xs. old ++ xs) all) h

pub images_of_more : {T E Y : Type 0} (r : Result T E) (P : Y → Type 0) (f : ℕ → Y) (p : ℕ → Bool) (a n : ℕ) → 0 < n → AllByRecursion P (map f (filter p (a ∷ [])))
    → OnOk r (AllByRecursion P (map f (filter p (range_with_len (a + 1) (n - 1))))) → OnOk r (AllByRecursion P (map f (filter p (range_with_len a n))))
images_of_more r P f p a n some first h =
    let all = sym (ap (map f) (taken p a n some) ∙ map_parts f (filter p (a ∷ [])) (filter p (range_with_len (a + 1) (n - 1)))) in
    on_ok r (λ k. subst (λ xs. AllByRecursion P xs) all (joined P (map f (filter p (a ∷ []))) (map f (filter p (range_with_len (a + 1) (n - 1)))) first k)) h

pub all_of_more : {T E : Type 0} (r : Result T E) (P : ℕ → Type 0) (p : ℕ → Bool) (a n : ℕ) → 0 < n → AllByRecursion P (filter p (a ∷ []))
    → OnOk r (AllByRecursion P (filter p (range_with_len (a + 1) (n - 1)))) → OnOk r (AllByRecursion P (filter p (range_with_len a n)))
all_of_more r P p a n some first h =
    on_ok r (λ k. subst (λ xs. AllByRecursion P xs) (sym (taken p a n some)) (joined P (filter p (a ∷ [])) (filter p (range_with_len (a + 1) (n - 1))) first k)) h

-- a fact that holds whatever the result
pub whatever : {T E : Type 0} (r : Result T E) {P : Type 0} → P → OnOk r P
whatever (Ok x) h = h
whatever (Err e) h = tt
