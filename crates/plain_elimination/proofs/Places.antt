-- Entries of rows that lie one after another, by their places.
use Rattle.std.proofs.Common.{◌≡◌, ℕ, zero, suc, ◌+◌, ◌-◌, ◌*◌, ◌<◌, ◌≤◌, List, [], ◌∷◌, length, get_or, set, take, drop, map, replicate, Some, refl, sym, ap, ap₂, ◌∙◌, arith}
use Rattle.std.proofs.lemmas.Option.{slice_get-get_or}
use Rattle.std.proofs.lemmas.List.{length-take-le, length-drop, length-map, get_or-take, get_or-drop, get_or-map, take-map, drop-map, drop-drop, take-set-le, drop-set-lt, drop-set-add, map-set, take-replicate, drop-replicate}
use Rattle.std.proofs.Math.Nat.{mul-le-mul_right}
use Rattle.std.proofs.Math.Seq.{take-set-lt}
use Rattle.exact_algebra.proofs.Differences.{products}
use Rattle.plain_elimination.specs.Layout.{rows_of}
use Rattle.plain_elimination.specs.Matrix.{entry, set_entry}

pub map-replicate : {X Y : Type 0} (f : X → Y) (n : ℕ) (x : X) → map f (replicate n x) ≡ replicate n (f x)
map-replicate f zero x = refl
map-replicate f (suc n) x = ap (λ xs. f x ∷ xs) (map-replicate f n x)

entry_at : {X : Type 0} (n w r c : ℕ) (xs : List X) (x : X) → r < n → c < w → n * w ≤ length xs → x ≡ get_or xs (r * w + c) x → entry (rows_of n w xs) r c ≡ Some x
entry_at zero w r c xs x lr lc l e = absurd (omega arith)
entry_at (suc n) w zero c xs x lr lc l e =
    let fits : w ≤ length xs = omega (arith, products) in
    let width : length (take w xs) ≡ w = length-take-le w xs fits in
    let place : zero * w + c ≡ c = omega (arith, products) in
    slice_get-get_or (take w xs) c x (omega arith) ∙ ap Some (get_or-take w xs c x lc ∙ ap (λ i. get_or xs i x) (sym place) ∙ sym e)
entry_at (suc n) w (suc r) c xs x lr lc l e =
    let place : suc r * w + c ≡ w + (r * w + c) = omega (arith, products) in
    entry_at n w r c (drop w xs) x (omega arith) lc (omega (arith, length-drop w xs, products)) (e ∙ ap (λ i. get_or xs i x) place ∙ sym (get_or-drop w xs (r * w + c) x))

-- an entry that was read
pub entry_read : {R X : Type 0} (h : R → X) (n r c i : ℕ) (cells : List R) (x : R) → r < n → c < n → length cells ≡ n * n → i ≡ r * n + c → i < n * n → x ≡ get_or cells i x → entry (rows_of n n (map h cells)) r c ≡ Some (h x)
entry_read h n r c i cells x lr lc l ei li e =
    let fits : i < length cells = omega arith in
    entry_at n n r c (map h cells) (h x) lr lc (omega (arith, length-map cells h)) (ap h e ∙ sym (get_or-map h cells i x (h x) fits) ∙ ap (λ j. get_or (map h cells) j (h x)) ei)

set_at : {X : Type 0} (n w r c : ℕ) (xs : List X) (x : X) → r < n → c < w → rows_of n w (set xs (r * w + c) x) ≡ set_entry (rows_of n w xs) r c x
set_at zero w r c xs x lr lc = absurd (omega arith)
set_at (suc n) w zero c xs x lr lc =
    let place : zero * w + c ≡ c = omega (arith, products) in
    rw place (ap₂ (λ row rest. row ∷ rows_of n w rest) (take-set-lt w xs c x lc) (drop-set-lt w xs c x lc))
set_at (suc n) w (suc r) c xs x lr lc =
    let place : suc r * w + c ≡ w + (r * w + c) = omega (arith, products) in
    rw place (ap₂ (λ row rest. row ∷ rest) (take-set-le w xs (w + (r * w + c)) x (omega arith)) (ap (rows_of n w) (drop-set-add w xs (r * w + c) x) ∙ set_at n w r c (drop w xs) x (omega arith) lc))

-- the rows after a write
pub rows_set : {R X : Type 0} (h : R → X) (n r c i : ℕ) (cells : List R) (x : R) → r < n → c < n → i ≡ r * n + c → rows_of n n (map h (set cells i x)) ≡ set_entry (rows_of n n (map h cells)) r c (h x)
rows_set h n r c i cells x lr lc ei = ap (rows_of n n) (map-set h cells i x ∙ ap (λ j. set (map h cells) j (h x)) ei) ∙ set_at n n r c (map h cells) (h x) lr lc

-- rows of the same element
pub rows_replicate : {X : Type 0} (n w : ℕ) (x : X) → rows_of n w (replicate (n * w) x) ≡ replicate n (replicate w x)
rows_replicate zero w x = refl
rows_replicate (suc n) w x =
    let e : suc n * w ≡ w + n * w = omega (arith, products) in
    let rest : w + n * w - w ≡ n * w = omega arith in
    rw e (ap₂ (λ row rows. row ∷ rows) (take-replicate w (w + n * w) x (omega arith)) (ap (rows_of n w) (drop-replicate w (w + n * w) x ∙ ap (λ k. replicate k x) rest) ∙ rows_replicate n w x))

-- a row by its number
row_of : {X : Type 0} (n w r : ℕ) (xs : List X) → r < n → get_or (rows_of n w xs) r [] ≡ take w (drop (r * w) xs)
row_of zero w r xs l = absurd (omega arith)
row_of (suc n) w zero xs l = let e : zero * w ≡ 0 = omega (arith, products) in rw e refl
row_of (suc n) w (suc r) xs l =
    let e : suc r * w ≡ w + r * w = omega (arith, products) in
    row_of n w r (drop w xs) (omega arith) ∙ rw (e, drop-drop (r * w) w xs) refl

pub row_read : {R X : Type 0} (h : R → X) (n r : ℕ) (cells row : List R) → r < n → row ≡ take n (drop (r * n) cells) → map h row ≡ get_or (rows_of n n (map h cells)) r []
row_read h n r cells row l e = ap (map h) e ∙ sym (take-map h n (drop (r * n) cells)) ∙ ap (take n) (sym (drop-map h (r * n) cells)) ∙ sym (row_of n n r (map h cells) l)

pub row_length : {X : Type 0} (n r : ℕ) (xs : List X) → r < n → length xs ≡ n * n → length (take n (drop (r * n) xs)) ≡ n
row_length n r xs l e =
    let inside : r * n + n ≤ n * n = let m : suc r * n ≤ n * n = mul-le-mul_right {m = suc r} {n = n} n (omega arith) in let p : suc r * n ≡ n + r * n = omega (arith, products) in omega arith in
    length-take-le n (drop (r * n) xs) (omega (arith, length-drop (r * n) xs))
