-- The greatest of sizes, one after another, and the rows of the unit matrix.
use Rattle.std.proofs.Common.{◌≡◌, ℕ, zero, suc, ◌+◌, ◌<◌, List, [], ◌∷◌, length, get_or, drop, map, max, replicate, Option, Some, None, refl, sym, ap, ◌∙◌, arith}
use Rattle.std.specs.Option.{option_map}
use Rattle.std.proofs.lemmas.List.{drop_more, length-map, get_or-map, length-replicate}
use Rattle.complex_interval.specs.Rectangles.{Rectangle, sub_rectangles}
use Rattle.certified_inverse.specs.Certificate.{and_then, each_two, combination, greatest, nought_rectangle, one_rectangle, unit_row, unit_rectangles, row_left}

module _ {Z : Type 0} (size : Z → ℕ) where
  -- the greatest size of the whole, from the greatest so far and what is left
  abbrev pub GreatestTo : Option (List Z) → ℕ → Option (List Z) → Type 0
  GreatestTo whole most left = and_then whole (λ zs. Some (greatest (map size zs))) ≡ and_then left (λ zs. Some (max most (greatest (map size zs))))

  pub greatest_begins : (whole : Option (List Z)) → GreatestTo whole 0 whole
  greatest_begins None = refl
  greatest_begins (Some zs) = let e : greatest (map size zs) ≡ max 0 (greatest (map size zs)) = omega arith in ap Some e

  raised : (most : ℕ) (z : Z) (next : Option (List Z)) → and_then (and_then next (λ zs. Some (z ∷ zs))) (λ zs. Some (max most (greatest (map size zs)))) ≡ and_then next (λ zs. Some (max (max most (size z)) (greatest (map size zs))))
  raised most z None = refl
  raised most z (Some zs) = let e : max most (max (size z) (greatest (map size zs))) ≡ max (max most (size z)) (greatest (map size zs)) = omega arith in ap Some e

  step : (most t : ℕ) (o : Option Z) (next : Option (List Z)) → Some t ≡ option_map size o
      → and_then (and_then o (λ z. and_then next (λ zs. Some (z ∷ zs)))) (λ zs. Some (max most (greatest (map size zs)))) ≡ and_then next (λ zs. Some (max (max most t) (greatest (map size zs))))
  step most t None next e = absurd cc
  step most t (Some z) next e = let same : t ≡ size z = cc in rw same (raised most z next)

  pub greatest_more : (whole left next : Option (List Z)) (o : Option Z) (most t : ℕ) → left ≡ and_then o (λ z. and_then next (λ zs. Some (z ∷ zs))) → Some t ≡ option_map size o → GreatestTo whole most left → GreatestTo whole (max most t) next
  greatest_more whole left next o most t el e k = k ∙ ap (λ l. and_then l (λ zs. Some (max most (greatest (map size zs))))) el ∙ step most t o next e

  absent : (most : ℕ) (o : Option Z) (next : Option (List Z)) → None ≡ option_map size o → and_then (and_then o (λ z. and_then next (λ zs. Some (z ∷ zs)))) (λ zs. Some (max most (greatest (map size zs)))) ≡ None
  absent most None next e = refl
  absent most (Some z) next e = absurd cc

  pub greatest_none : (whole left next : Option (List Z)) (o : Option Z) (most : ℕ) → left ≡ and_then o (λ z. and_then next (λ zs. Some (z ∷ zs))) → None ≡ option_map size o → GreatestTo whole most left
      → and_then whole (λ zs. Some (greatest (map size zs))) ≡ None
  greatest_none whole left next o most el e k = k ∙ ap (λ l. and_then l (λ zs. Some (max most (greatest (map size zs))))) el ∙ absent most o next e

  pub greatest_all : (whole left : Option (List Z)) (most : ℕ) → left ≡ Some [] → GreatestTo whole most left → and_then whole (λ zs. Some (greatest (map size zs))) ≡ Some most
  greatest_all whole left most el k = k ∙ ap (λ l. and_then l (λ zs. Some (max most (greatest (map size zs))))) el ∙ (let e : max most 0 ≡ most = omega arith in ap Some e)

-- ---- the unit matrix
pub length-unit_rectangles : (s n : ℕ) → length (unit_rectangles s n) ≡ n
length-unit_rectangles s zero = refl
length-unit_rectangles s (suc n) = ap suc (length-map (unit_rectangles s n) (λ e. nought_rectangle ∷ e) ∙ length-unit_rectangles s n)

unit_at : (s n i : ℕ) → i < n → get_or (unit_rectangles s n) i [] ≡ unit_row (one_rectangle s) nought_rectangle n i
unit_at s zero i l = absurd (omega arith)
unit_at s (suc n) zero l = refl
unit_at s (suc n) (suc i) l =
    get_or-map (λ e. nought_rectangle ∷ e) (unit_rectangles s n) i [] [] (rw (length-unit_rectangles s n) (omega arith)) ∙ ap (λ e. nought_rectangle ∷ e) (unit_at s n i (omega arith))

pub unit_rows_left : (s n i : ℕ) → i < n → drop i (unit_rectangles s n) ≡ unit_row (one_rectangle s) nought_rectangle n i ∷ drop (i + 1) (unit_rectangles s n)
unit_rows_left s n i l = drop_more (unit_rectangles s n) i [] (rw (length-unit_rectangles s n) l) ∙ ap (λ e. e ∷ drop (i + 1) (unit_rectangles s n)) (unit_at s n i l)

pub length-unit_row : {X : Type 0} (one nought : X) (n i : ℕ) → length (unit_row one nought n i) ≡ n
length-unit_row one nought zero i = refl
length-unit_row one nought (suc n) zero = ap suc (length-replicate n nought)
length-unit_row one nought (suc n) (suc i) = ap suc (length-unit_row one nought n i)

pub map_noughts : {X Y : Type 0} (nought : Y) (e : List X) → map (λ _. nought) e ≡ replicate (length e) nought
map_noughts nought [] = refl
map_noughts nought (x ∷ e) = ap (λ ys. nought ∷ ys) (map_noughts nought e)

-- a row of (unit - C·Y), where the sums were formed
pub row_left-by : (s : ℕ) (ys : List (List Rectangle)) (e cs : List Rectangle) (n : ℕ) (o : Option (List Rectangle)) → length e ≡ n → o ≡ combination s (replicate n nought_rectangle) cs ys
    → row_left s ys e cs ≡ and_then o (λ sums. each_two sub_rectangles e sums)
row_left-by s ys e cs n o l k =
    ap (λ z. and_then (combination s z cs ys) (λ sums. each_two sub_rectangles e sums)) (map_noughts nought_rectangle e ∙ ap (λ m. replicate m nought_rectangle) l)
    ∙ ap (λ o. and_then o (λ sums. each_two sub_rectangles e sums)) (sym k)

-- as many as there are noughts
pub noughts_count : {R : Type 0} (rectangle : R → Rectangle) (items : List R) (n : ℕ) → map rectangle items ≡ replicate n nought_rectangle → length items ≡ n
noughts_count rectangle items n e = sym (length-map items rectangle) ∙ ap length e ∙ length-replicate n nought_rectangle
