-- A sum of products, term by term.
use Rattle.std.proofs.Common.{◌≡◌, ℕ, ◌+◌, ◌<◌, ◌≤◌, List, ◌∷◌, length, get_or, drop, map, Option, Some, None, refl, sym, ap, ◌∙◌, arith}
use Rattle.std.specs.Option.{option_map}
use Rattle.std.proofs.lemmas.List.{drop_all, length-map}
use Rattle.complex_interval.specs.Rectangles.{Rectangle, sub_rectangles}
use Rattle.plain_elimination.proofs.Sweeps.{read}
use Rattle.certified_inverse.specs.Certificate.{and_then, each_two, size_of, row_size, add_times, combination, sum_products}

-- the terms of the whole, from what is left after i of them
abbrev pub SummedTo : {R : Type 0} → (R → Rectangle) → ℕ → Rectangle → List R → List R → Rectangle → ℕ → Type 0
SummedTo h s first cs xs sum i = sum_products s first (map h cs) (map h xs) ≡ sum_products s sum (drop i (map h cs)) (drop i (map h xs))

pub summed_more : {R : Type 0} (h : R → Rectangle) (s : ℕ) (first sum more : Rectangle) (cs xs : List R) (i : ℕ) (c x : R) → i < length cs → i < length xs → c ≡ get_or cs i c → x ≡ get_or xs i x
    → Some more ≡ add_times s (h c) sum (h x) → SummedTo h s first cs xs sum i → SummedTo h s first cs xs more (i + 1)
summed_more h s first sum more cs xs i c x lc lx ec ex e k = k ∙ rw (read h cs i c lc ec, read h xs i x lx ex, ← e) refl

pub summed_none : {R : Type 0} (h : R → Rectangle) (s : ℕ) (first sum : Rectangle) (cs xs : List R) (i : ℕ) (c x : R) → i < length cs → i < length xs → c ≡ get_or cs i c → x ≡ get_or xs i x
    → None ≡ add_times s (h c) sum (h x) → SummedTo h s first cs xs sum i → sum_products s first (map h cs) (map h xs) ≡ None
summed_none h s first sum cs xs i c x lc lx ec ex e k = k ∙ rw (read h cs i c lc ec, read h xs i x lx ex, ← e) refl

pub summed_all : {R : Type 0} (h : R → Rectangle) (s : ℕ) (first sum : Rectangle) (cs xs : List R) (i : ℕ) → length cs ≤ i → length xs ≤ i → SummedTo h s first cs xs sum i → sum_products s first (map h cs) (map h xs) ≡ Some sum
summed_all h s first sum cs xs i lc lx k = k ∙ rw (drop_all i (map h cs) (rw (length-map cs h) lc), drop_all i (map h xs) (rw (length-map xs h) lx)) refl

-- the rows of the whole, from what is left after i of them
abbrev pub CombinedTo : ℕ → List Rectangle → List Rectangle → List (List Rectangle) → List Rectangle → ℕ → Type 0
CombinedTo s first cs ys sums i = combination s first cs ys ≡ combination s sums (drop i cs) (drop i ys)

pub combined_more : (s : ℕ) (first sums more cs : List Rectangle) (ys : List (List Rectangle)) (i : ℕ) (c : Rectangle) (y : List Rectangle) → drop i cs ≡ c ∷ drop (i + 1) cs → drop i ys ≡ y ∷ drop (i + 1) ys
    → Some more ≡ each_two (add_times s c) sums y → CombinedTo s first cs ys sums i → CombinedTo s first cs ys more (i + 1)
combined_more s first sums more cs ys i c y ec ey e k = k ∙ rw (ec, ey, ← e) refl

pub combined_none : (s : ℕ) (first sums cs : List Rectangle) (ys : List (List Rectangle)) (i : ℕ) (c : Rectangle) (y : List Rectangle) → drop i cs ≡ c ∷ drop (i + 1) cs → drop i ys ≡ y ∷ drop (i + 1) ys
    → None ≡ each_two (add_times s c) sums y → CombinedTo s first cs ys sums i → combination s first cs ys ≡ None
combined_none s first sums cs ys i c y ec ey e k = k ∙ rw (ec, ey, ← e) refl

pub combined_all : (s : ℕ) (first sums cs : List Rectangle) (ys : List (List Rectangle)) (i : ℕ) → length cs ≤ i → length ys ≤ i → CombinedTo s first cs ys sums i → combination s first cs ys ≡ Some sums
combined_all s first sums cs ys i lc ly k = k ∙ rw (drop_all i cs lc, drop_all i ys ly) refl

-- ---- the size of a difference of rows
-- the sizes of the whole, from what is left after i entries
abbrev pub SizedTo : List Rectangle → List Rectangle → ℕ → ℕ → Type 0
SizedTo xs ys total i = option_map row_size (each_two sub_rectangles xs ys) ≡ option_map (λ rest. total + row_size rest) (each_two sub_rectangles (drop i xs) (drop i ys))

added : (total : ℕ) (d : Rectangle) (o : Option (List Rectangle)) → option_map (λ rest. total + row_size rest) (and_then o (λ zs. Some (d ∷ zs))) ≡ option_map (λ rest. total + size_of d + row_size rest) o
added total d None = refl
added total d (Some zs) = let e : total + (size_of d + row_size zs) ≡ total + size_of d + row_size zs = omega arith in ap Some e

from_none : (o : Option (List Rectangle)) → option_map row_size o ≡ option_map (λ rest. 0 + row_size rest) o
from_none None = refl
from_none (Some zs) = let e : row_size zs ≡ 0 + row_size zs = omega arith in ap Some e

pub sized_begins : (xs ys : List Rectangle) → SizedTo xs ys 0 0
sized_begins xs ys = from_none (each_two sub_rectangles xs ys)

one_sized : (xs ys : List Rectangle) (total : ℕ) (x y d : Rectangle) → sub_rectangles x y ≡ Some d → option_map (λ rest. total + row_size rest) (each_two sub_rectangles (x ∷ xs) (y ∷ ys)) ≡ option_map (λ rest. total + size_of d + row_size rest) (each_two sub_rectangles xs ys)
one_sized xs ys total x y d e = rw e (added total d (each_two sub_rectangles xs ys))

pub sized_more : (xs ys : List Rectangle) (total i : ℕ) (x y d : Rectangle) → drop i xs ≡ x ∷ drop (i + 1) xs → drop i ys ≡ y ∷ drop (i + 1) ys → Some d ≡ sub_rectangles x y → SizedTo xs ys total i → SizedTo xs ys (total + size_of d) (i + 1)
sized_more xs ys total i x y d ex ey e k = k ∙ rw (ex, ey) (one_sized (drop (i + 1) xs) (drop (i + 1) ys) total x y d (sym e))

pub sized_none : (xs ys : List Rectangle) (total i : ℕ) (x y : Rectangle) → drop i xs ≡ x ∷ drop (i + 1) xs → drop i ys ≡ y ∷ drop (i + 1) ys → None ≡ sub_rectangles x y → SizedTo xs ys total i → option_map row_size (each_two sub_rectangles xs ys) ≡ None
sized_none xs ys total i x y ex ey e k = k ∙ rw (ex, ey, ← e) refl

pub sized_all : (xs ys : List Rectangle) (total i : ℕ) → length xs ≤ i → length ys ≤ i → SizedTo xs ys total i → option_map row_size (each_two sub_rectangles xs ys) ≡ Some total
sized_all xs ys total i lx ly k = k ∙ rw (drop_all i xs lx, drop_all i ys ly) (let e : total + 0 ≡ total = omega arith in ap Some e)
