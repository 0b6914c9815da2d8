-- The taps of a branch and their pairs, one after another.
use Rattle.std.proofs.Common.{◌≡◌, ◌∙◌, ℕ, zero, suc, ◌+◌, ◌<◌, List, [], ◌∷◌, ◌++◌, length, map, drop, get_or, refl, sym, ap, subst, arith, Option, append_assoc}
use Rattle.std.specs.Prelude.{Some, None}
use Rattle.std.specs.List.{AllZip}
use Rattle.std.specs.Option.{option_map}
use Rattle.net_branch.specs.declared.network.Tap.{Tap}
use Rattle.net_branch.specs.Exact.{exact_tap}
use Rattle.admittance_box.specs.Addends.{PlacedTap, tap_between, taps_between}
use Rattle.admittance_box.specs.Steps.{◌>>=◌}

-- the items at a place of two lists
pub zip_item : {X Y : Type 0} (R : Y → Y → Type 0) (f : X → Y) (xs zs : List X) (i : ℕ) (x z : X) → AllZip R (map f xs) (map f zs) → i < length xs → x ≡ get_or xs i x → z ≡ get_or zs i z → R (f x) (f z)
zip_item R f [] zs i x z h l e k = absurd (omega arith)
zip_item R f (w ∷ xs) [] i x z h l e k = absurd h
zip_item R f (w ∷ xs) (v ∷ zs) zero x z h l e k = subst (λ y. R (f y) (f z)) (sym e) (subst (λ y. R (f w) (f y)) (sym k) h.0)
zip_item R f (w ∷ xs) (v ∷ zs) (suc i) x z h l e k = zip_item R f xs zs i x z h.1 (omega arith) e k

pub zip_count : {X Y : Type 0} (R : Y → Y → Type 0) (f : X → Y) (xs zs : List X) → AllZip R (map f xs) (map f zs) → length xs ≡ length zs
zip_count R f [] [] h = refl
zip_count R f [] (v ∷ zs) h = absurd h
zip_count R f (w ∷ xs) [] h = absurd h
zip_count R f (w ∷ xs) (v ∷ zs) h = ap suc (zip_count R f xs zs h.1)

-- the items behind a place
pub drop_item : {X : Type 0} (xs : List X) (i : ℕ) (x : X) → i < length xs → x ≡ get_or xs i x → drop i xs ≡ x ∷ drop (i + 1) xs
drop_item [] i x l e = absurd (omega arith)
drop_item (w ∷ xs) zero x l e = ap (λ y. y ∷ xs) (sym e)
drop_item (w ∷ xs) (suc i) x l e = let k : suc i + 1 ≡ suc (i + 1) = omega arith in rw k (drop_item xs i x (omega arith) e)

pub map-append_one : {X Y : Type 0} (f : X → Y) (xs : List X) (x : X) → map f (xs ++ x ∷ []) ≡ map f xs ++ f x ∷ []
map-append_one f [] x = refl
map-append_one f (w ∷ xs) x = ap (λ l. f w ∷ l) (map-append_one f xs x)

-- one more item in front of the rest is one more at the end of those before
pub one_more : {X : Type 0} (before : List X) (x : X) (rest : Option (List X)) → option_map (λ more. before ++ more) (rest >>= (λ more. Some (x ∷ more))) ≡ option_map (λ more. (before ++ x ∷ []) ++ more) rest
one_more before x None = refl
one_more before x (Some more) = ap Some (sym (append_assoc before (x ∷ []) more))

module _ (s : ℕ) (ordering : List ℕ) (low high : List Tap) (i : ℕ) (t u : Tap) (low_in : i < length low) (low_at : t ≡ get_or low i t) (high_in : i < length high) (high_at : u ≡ get_or high i u) where
  rest_of : taps_between s ordering (map exact_tap (drop i low)) (map exact_tap (drop i high)) ≡ (tap_between s ordering (exact_tap t) (exact_tap u) >>= (λ tap. taps_between s ordering (map exact_tap (drop (i + 1) low)) (map exact_tap (drop (i + 1) high)) >>= (λ taps. Some (tap ∷ taps))))
  rest_of = rw (drop_item low i t low_in low_at, drop_item high i u high_in high_at) refl

  pub taps_more : {X : Type 0} (f : X → PlacedTap) (items after : List X) (x : X) (whole : Option (List PlacedTap)) → after ≡ items ++ x ∷ [] → Some (f x) ≡ tap_between s ordering (exact_tap t) (exact_tap u)
      → whole ≡ option_map (λ more. map f items ++ more) (taps_between s ordering (map exact_tap (drop i low)) (map exact_tap (drop i high)))
      → whole ≡ option_map (λ more. map f after ++ more) (taps_between s ordering (map exact_tap (drop (i + 1) low)) (map exact_tap (drop (i + 1) high)))
  taps_more f items after x whole e k h = h ∙ ap (option_map (λ more. map f items ++ more)) (rest_of ∙ ap (λ o. o >>= (λ tap. taps_between s ordering (map exact_tap (drop (i + 1) low)) (map exact_tap (drop (i + 1) high)) >>= (λ taps. Some (tap ∷ taps)))) (sym k))
      ∙ one_more (map f items) (f x) (taps_between s ordering (map exact_tap (drop (i + 1) low)) (map exact_tap (drop (i + 1) high)))
      ∙ ap (λ l. option_map (λ more. l ++ more) (taps_between s ordering (map exact_tap (drop (i + 1) low)) (map exact_tap (drop (i + 1) high)))) (sym (ap (map f) e ∙ map-append_one f items x))

-- the items from a place on
pub zip_drop : {X Y : Type 0} (R : Y → Y → Type 0) (f : X → Y) (xs zs : List X) (i : ℕ) → AllZip R (map f xs) (map f zs) → AllZip R (map f (drop i xs)) (map f (drop i zs))
zip_drop R f xs zs zero h = h
zip_drop R f [] [] (suc i) h = tt
zip_drop R f [] (v ∷ zs) (suc i) h = absurd h
zip_drop R f (w ∷ xs) [] (suc i) h = absurd h
zip_drop R f (w ∷ xs) (v ∷ zs) (suc i) h = zip_drop R f xs zs i h.1
