-- A point less a product with zero is the point: a row's zeros are passed over.
use Rattle.std.proofs.Common.{◌≡◌, ◌≢◌, ◌⊎◌, ⊎_elim, Bool, true, ◌&&◌, ap₂, ℕ, zero, suc, ◌+◌, ◌<◌, ◌≤◌, List, [], ◌∷◌, ◌++◌, length, get_or, get_or-set_same, get_or-set_other, set, take, drop, map, Option, Some, refl, sym, ap, ◌∙◌, subst, arith}
use Rattle.std.specs.Ordering.{int_eq}
use lib.IntN.{ℤ, pos}
use Rattle.std.proofs.lemmas.Bool.{cases_eq}
use Rattle.std.proofs.lemmas.Int.{ints}
use Rattle.std.proofs.lemmas.List.{drop_more, take_more, length-map, length-set}
use Rattle.complex_interval.specs.Ends.{AreEnds}
use Rattle.complex_interval.specs.Rectangles.{Rectangle}
use Rattle.plain_elimination.specs.Matrix.{nought_rectangle}
use Rattle.sparse_rows.proofs.Zeros.{times_zero, zero_times, less_zero}
use Rattle.middle_inverse.specs.declared.raw.Point.{Point}
use Rattle.middle_inverse.specs.Inverse.{low_point, point_ends, point_less}
use Rattle.middle_inverse.specs.Leads.{Leads}
use Rattle.middle_inverse.specs.Lists.{each_two}
use Rattle.middle_inverse.specs.Points.{rectangle_at}
use Rattle.middle_inverse.proofs.Each.{EachTwoTo, after, after_push}

-- ---- products with zero
ends_at : (x : Point) → AreEnds (point_ends x.re) × AreEnds (point_ends x.im)
ends_at x = (record { ordered = omega (arith, ints); low_fits = x.re_fits; high_fits = x.re_fits }, record { ordered = omega (arith, ints); low_fits = x.im_fits; high_fits = x.im_fits })

pub less_nought : (s : ℕ) (f : Rectangle) (a : Point) → point_less s f (rectangle_at a) nought_rectangle ≡ Some (rectangle_at a)
unfolding point_less low_point
less_nought s f a = rw (times_zero s f, less_zero (rectangle_at a) (ends_at a).0 (ends_at a).1) refl

pub less_by_nought : (s : ℕ) (a : Point) (b : Rectangle) → point_less s nought_rectangle (rectangle_at a) b ≡ Some (rectangle_at a)
unfolding point_less low_point
less_by_nought s a b = rw (zero_times s b, less_zero (rectangle_at a) (ends_at a).0 (ends_at a).1) refl

-- ---- a list that stays as it is
stays_by : {X Y : Type 0} (f : X → Y → Option X) (x : X) (y : Y) (xs : List X) (ys : List Y) → f x y ≡ Some x → each_two f xs ys ≡ Some xs → each_two f (x ∷ xs) (y ∷ ys) ≡ Some (x ∷ xs)
stays_by f x y xs ys e k = rw (e, k) refl

-- each element by itself stays, whatever stands in the other list
pub all_stay : {R X Y : Type 0} (h : R → X) (f : X → Y → Option X) (xs : List R) (ys : List Y) → ((x : R) (y : Y) → f (h x) y ≡ Some (h x)) → length xs ≡ length ys → each_two f (map h xs) ys ≡ Some (map h xs)
all_stay h f [] [] stay e = refl
all_stay h f [] (y ∷ ys) stay e = absurd (omega (arith, e))
all_stay h f (x ∷ xs) [] stay e = absurd (omega (arith, e))
all_stay h f (x ∷ xs) (y ∷ ys) stay e = stays_by f (h x) y (map h xs) ys (stay x y) (all_stay h f xs ys stay (omega (arith, e)))

-- ---- places that are passed over
module _ {R S X Y : Type 0} (h : R → X) (g : S → Y) (f : X → Y → Option X) (z : Y) (stay : (x : R) → f (h x) z ≡ Some (h x)) where
  stay_at : (row : List R) (i : ℕ) (x : R) → i < length row → f (get_or (map h row) i (h x)) z ≡ Some (get_or (map h row) i (h x))
  stay_at [] i x l = absurd (omega arith)
  stay_at (y ∷ row) zero x l = stay y
  stay_at (y ∷ row) (suc i) x l = stay_at row i x (omega arith)

  passed : (a : X) (b : Y) (front xs : List X) (ys : List Y) → f a b ≡ Some a → after front (each_two f (a ∷ xs) (b ∷ ys)) ≡ after (front ++ a ∷ []) (each_two f xs ys)
  passed a b front xs ys e = rw e (after_push front a (each_two f xs ys))

  pass_one : (old row : List R) (others : List S) (i : ℕ) → i < length row → i < length others → get_or (map g others) i z ≡ z → EachTwoTo h g f old row others i → EachTwoTo h g f old row others (i + 1)
  pass_one old [] others i lr lo e k = absurd (omega arith)
  pass_one old (x ∷ row) others i lr lo e k =
      let xr = map h (x ∷ row) in
      let a = get_or xr i (h x) in
      let eo : drop i (map g others) ≡ z ∷ drop (i + 1) (map g others) = drop_more (map g others) i z (rw (length-map others g) lo) ∙ ap (λ y. y ∷ drop (i + 1) (map g others)) e in
      let er : drop i xr ≡ a ∷ drop (i + 1) xr = drop_more xr i (h x) (rw (length-map (x ∷ row) h) lr) in
      let et : take (i + 1) xr ≡ take i xr ++ a ∷ [] = take_more xr i (h x) (rw (length-map (x ∷ row) h) lr) in
      k ∙ rw (eo, er, et) (passed a z (take i xr) (drop (i + 1) xr) (drop (i + 1) (map g others)) (stay_at (x ∷ row) i x lr))

  pub pass : (old row : List R) (others : List S) (d i n : ℕ) → i + d ≡ n → n ≤ length row → n ≤ length others → ((j : ℕ) → i ≤ j → j < n → get_or (map g others) j z ≡ z) → EachTwoTo h g f old row others i → EachTwoTo h g f old row others n
  pass old row others zero i n e lr lo zeros k = subst (λ m. EachTwoTo h g f old row others m) (omega arith) k
  pass old row others (suc d) i n e lr lo zeros k =
      pass old row others d (i + 1) n (omega arith) lr lo (λ j l m. zeros j (omega arith) m)
      (pass_one old row others i (omega arith) (omega arith) (zeros i (omega arith) (omega arith)) k)

-- ---- lists that lead
pub leads_none : (P : ℕ → Type 0) (n : ℕ) (next : List ℕ) → length next ≡ n + 1 → Leads P n n (set next n n)
leads_none P n next size =
    let at : (i : ℕ) → n ≤ i → i ≤ n → get_or (set next n n) i 0 ≡ n = λ i l m. let e : i ≡ n = omega arith in ap (λ k. get_or (set next n n) k 0) e ∙ get_or-set_same next n n 0 (omega arith) in
    record {
      size = length-set next n n ∙ size;
      forward = λ i l m. let e = at i l m in omega arith;
      within = λ i l m. let e = at i l m in omega arith;
      between = λ i j l m b t. let e = at i l m in absurd (omega arith);
    }

pub leads_more : (P : ℕ → Type 0) (n i v : ℕ) (next : List ℕ) → i < n → i ≤ v → v ≤ n → ((j : ℕ) → i ≤ j → j < v → P j) → Leads P n (i + 1) next → Leads P n i (set next i v)
leads_more P n i v next l forward within between k =
    let size = k.size in
    let new = set next i v in
    let here : get_or new i 0 ≡ v = get_or-set_same next i v 0 (omega arith) in
    let there : (j : ℕ) → j ≢ i → get_or new j 0 ≡ get_or next j 0 = λ j d. get_or-set_other next i j v 0 d in
    let split : (j : ℕ) → (j ≡ i) ⊎ (j ≢ i) = λ j. cases_eq j i in
    record {
      size = length-set next i v ∙ size;
      forward = λ j f m. ⊎_elim
          (λ (s : j ≡ i). let e : get_or new j 0 ≡ v = ap (λ q. get_or new q 0) s ∙ here in omega arith)
          (λ (d : j ≢ i). let e = there j d in let r = k.forward j (omega arith) m in omega arith)
          (split j);
      within = λ j f m. ⊎_elim
          (λ (s : j ≡ i). let e : get_or new j 0 ≡ v = ap (λ q. get_or new q 0) s ∙ here in omega arith)
          (λ (d : j ≢ i). let e = there j d in let r = k.within j (omega arith) m in omega arith)
          (split j);
      between = λ j q f m b t. ⊎_elim
          (λ (s : j ≡ i). let e : get_or new j 0 ≡ v = ap (λ q. get_or new q 0) s ∙ here in between q (omega arith) (omega arith))
          (λ (d : j ≢ i). let e = there j d in k.between j q (omega arith) m b (omega arith))
          (split j);
    }

-- where this place is of the kind P, the way on is that of the next place
pub leads_on : (P : ℕ → Type 0) (n i : ℕ) (next : List ℕ) → i < n → P i → Leads P n (i + 1) next → Leads P n i (set next i (get_or next (i + 1) 0))
leads_on P n i next l p k =
    let forward = k.forward (i + 1) (omega arith) (omega arith) in
    leads_more P n i (get_or next (i + 1) 0) next l (omega arith) (k.within (i + 1) (omega arith) (omega arith))
    (λ j b t. ⊎_elim (λ (s : j ≡ i). subst P (sym s) p) (λ (d : j ≢ i). k.between (i + 1) j (omega arith) (omega arith) (omega arith) t) (cases_eq j i))
    k

-- where it isn't, the place is listed itself
pub leads_here : (P : ℕ → Type 0) (n i : ℕ) (next : List ℕ) → i < n → Leads P n (i + 1) next → Leads P n i (set next i i)
leads_here P n i next l k = leads_more P n i i next l (omega arith) (omega arith) (λ j b t. absurd (omega arith)) k

-- ---- the test for zero
both_true : (a b : Bool) → (a && b) ≡ true → (a ≡ true) × (b ≡ true)
both_true a b e = grind arith

zero_is : (n : ℤ) → int_eq n (pos 0) ≡ true → n ≡ pos 0
zero_is n q = grind (arith, ints)

pub nought_is : (x : Point) → (int_eq x.re (pos 0) && int_eq x.im (pos 0)) ≡ true → rectangle_at x ≡ nought_rectangle
nought_is x e =
    let (re, im) = both_true (int_eq x.re (pos 0)) (int_eq x.im (pos 0)) e in
    ap₂ (λ (a b : ℤ). let r : Rectangle = record { re = point_ends a; im = point_ends b } in r) (zero_is x.re re) (zero_is x.im im)
