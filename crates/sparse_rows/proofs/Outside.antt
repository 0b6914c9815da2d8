-- Places that aren't listed stay zero where a part of the cells is written.
use Rattle.std.proofs.Common.{◌≡◌, ◌⊎◌, ⊎_elim, ℕ, ◌+◌, ◌-◌, ◌<◌, ◌≤◌, List, get_or, take, drop, map, sym, subst, ap, ◌∙◌, arith}
use Rattle.std.proofs.lemmas.List.{get_or-take, get_or-drop, drop-map, take-map}
use Rattle.std.proofs.lemmas.Bool.{cases_lt}
use Rattle.complex_interval.specs.Rectangles.{Rectangle}
use Rattle.plain_elimination.specs.Matrix.{nought_rectangle}
use Rattle.sparse_rows.specs.Listed.{ZeroAt, Out, ZeroOutside}

-- by cases on the order of two numbers
pub by_lt : {P : Type 0} (a b : ℕ) → (a < b → P) → (b ≤ a → P) → P
by_lt a b below above = ⊎_elim below above (cases_lt a b)

-- the entry of a part
pub in_part : {R : Type 0} (h : R → Rectangle) (xs ys : List R) (a n j : ℕ) → take n (drop a xs) ≡ ys → j < n → get_or (map h xs) (a + j) nought_rectangle ≡ get_or (map h ys) j nought_rectangle
in_part h xs ys a n j e l =
    let part : take n (drop a (map h xs)) ≡ map h ys = rw (drop-map h a xs, take-map h n (drop a xs)) (ap (map h) e) in
    sym (get_or-drop a (map h xs) j nought_rectangle) ∙ sym (get_or-take n (drop a (map h xs)) j nought_rectangle l) ∙ ap (λ zs. get_or zs j nought_rectangle) part

in_front : {R : Type 0} (h : R → Rectangle) (xs ys : List R) (a q : ℕ) → take a xs ≡ take a ys → q < a → get_or (map h xs) q nought_rectangle ≡ get_or (map h ys) q nought_rectangle
in_front h xs ys a q e l =
    let front : take a (map h xs) ≡ take a (map h ys) = take-map h a xs ∙ ap (map h) e ∙ sym (take-map h a ys) in
    sym (get_or-take a (map h xs) q nought_rectangle l) ∙ ap (λ zs. get_or zs q nought_rectangle) front ∙ get_or-take a (map h ys) q nought_rectangle l

in_back : {R : Type 0} (h : R → Rectangle) (xs ys : List R) (b j : ℕ) → drop b xs ≡ drop b ys → get_or (map h xs) (b + j) nought_rectangle ≡ get_or (map h ys) (b + j) nought_rectangle
in_back h xs ys b j e =
    let back : drop b (map h xs) ≡ drop b (map h ys) = drop-map h b xs ∙ ap (map h) e ∙ sym (drop-map h b ys) in
    sym (get_or-drop b (map h xs) j nought_rectangle) ∙ ap (λ zs. get_or zs j nought_rectangle) back ∙ get_or-drop b (map h ys) j nought_rectangle

-- outside the part that was written an entry is as before
pub front_or_back : {R : Type 0} (h : R → Rectangle) (xs ys : List R) (a b q : ℕ) → take a xs ≡ take a ys → drop b xs ≡ drop b ys → (q < a) ⊎ (b ≤ q) → get_or (map h xs) q nought_rectangle ≡ get_or (map h ys) q nought_rectangle
front_or_back h xs ys a b q before after side =
    ⊎_elim
    (λ (l : q < a). in_front h xs ys a q before l)
    (λ (l : b ≤ q). let e : b + (q - b) ≡ q = omega arith in subst (λ m. get_or (map h xs) m nought_rectangle ≡ get_or (map h ys) m nought_rectangle) e (in_back h xs ys b (q - b) after))
    side

-- the places outside stay zero: a is the first place of the part, n its length, ys its entries now and old those before
pub zeros_stay : {R : Type 0} (h : R → Rectangle) (cells new ys old first : List R) (entry : R) (at n : ℕ) → take (at + 1) new ≡ take (at + 1) cells → drop (at + 1 + n) new ≡ drop (at + 1 + n) cells
    → take n (drop (at + 1) new) ≡ ys → take n (drop (at + 1) cells) ≡ old
    → ((j : ℕ) → ZeroAt (map h first) j → get_or (map h ys) j nought_rectangle ≡ get_or (map h old) j nought_rectangle)
    → h entry ≡ get_or (map h cells) at nought_rectangle → (h entry ≡ nought_rectangle → ys ≡ old)
    → (all : List ℕ) → ZeroOutside all (map h cells)
    → ((j : ℕ) → j < n → Out all (at + 1 + j) → ZeroAt (map h first) j ⊎ Out all at)
    → ZeroOutside all (map h new)
zeros_stay h cells new ys old first entry at n before after en eo kept ee stays all zeros closed q out =
    by_lt q (at + 1)
    (λ (l : q < at + 1). in_front h new cells (at + 1) q before l ∙ zeros q out)
    (λ (l : at + 1 ≤ q).
    by_lt q (at + 1 + n)
    (λ (m : q < at + 1 + n).
    let j = q - (at + 1) in
    let e : at + 1 + j ≡ q = omega arith in
    let lj : j < n = omega arith in
    let same : get_or (map h ys) j nought_rectangle ≡ get_or (map h old) j nought_rectangle =
    ⊎_elim
    (λ (z : ZeroAt (map h first) j). kept j z)
    (λ (o : Out all at). ap (λ zs. get_or (map h zs) j nought_rectangle) (stays (ee ∙ zeros at o)))
    (closed j lj (subst (Out all) (sym e) out))
    in
    let moved : get_or (map h new) (at + 1 + j) nought_rectangle ≡ get_or (map h cells) (at + 1 + j) nought_rectangle = in_part h new ys (at + 1) n j en lj ∙ same ∙ sym (in_part h cells old (at + 1) n j eo lj) in
    subst (λ m. get_or (map h new) m nought_rectangle ≡ get_or (map h cells) m nought_rectangle) e moved ∙ zeros q out)
    (λ (m : at + 1 + n ≤ q). let e : at + 1 + n + (q - (at + 1 + n)) ≡ q = omega arith in
    subst (λ p. get_or (map h new) p nought_rectangle ≡ get_or (map h cells) p nought_rectangle) e (in_back h new cells (at + 1 + n) (q - (at + 1 + n)) after) ∙ zeros q out))
