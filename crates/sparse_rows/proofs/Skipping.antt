-- Entries that are zero in the pivot's row: a sweep passes over them, and they stay.
use Rattle.std.proofs.Common.{◌≡◌, ◌≢◌, ◌⊎◌, ⊎_elim, ℕ, zero, suc, ◌+◌, ◌<◌, ◌≤◌, List, [], ◌∷◌, ◌++◌, length, get_or, get_or-set_same, get_or-set_other, set, take, drop, map, Some, sym, subst, ap, ◌∙◌, arith, true}
use Rattle.std.proofs.lemmas.Bool.{cases_eq}
use Rattle.std.proofs.lemmas.List.{drop_more, take_more, get_or-map, length-map, map-set}
use Rattle.plain_elimination.specs.Elimination.{Enclosures, sweep}
use Rattle.plain_elimination.proofs.Sweeps.{after_push, after_none, SweptTo}

-- how exact zero acts on the rectangles that a type has
pub record ZeroLaws (B : Enclosures) {R : Type 0} (h : R → B.Enclosure) (z : B.Enclosure) : Type 0 where
  pub alone : B.is_zero z ≡ true
  pub times : (f : B.Enclosure) → B.mul f z ≡ Some z
  pub zero_times : (f : B.Enclosure) → B.mul z f ≡ Some z
  pub less : (a : R) → B.sub (h a) z ≡ Some (h a)
  pub less_zero : B.sub z z ≡ Some z

same_or_not : (i j : ℕ) → (i ≡ j) ⊎ (i ≢ j)
same_or_not i j = cases_eq i j

module _ (B : Enclosures) where
  open B use {Enclosure, is_zero, sub, mul}

  less_at : {R : Type 0} (h : R → Enclosure) (z : Enclosure) (laws : ZeroLaws B h z) (row : List R) (i : ℕ) → sub (get_or (map h row) i z) z ≡ Some (get_or (map h row) i z)
  less_at h z laws [] i = laws.less_zero
  less_at h z laws (x ∷ row) zero = laws.less x
  less_at h z laws (x ∷ row) (suc i) = less_at h z laws row i

  skip_one : {R : Type 0} (h : R → Enclosure) (z : Enclosure) (laws : ZeroLaws B h z) (f : Enclosure) (first old row : List R) (i : ℕ) → i < length first → i < length row
      → get_or (map h first) i z ≡ z → SweptTo B h f first old row i → SweptTo B h f first old row (i + 1)
  skip_one h z laws f first old row i lf lr e k =
      let xf = map h first in
      let xr = map h row in
      let a = get_or xr i z in
      let ef : drop i xf ≡ z ∷ drop (i + 1) xf = drop_more xf i z (rw (length-map first h) lf) ∙ ap (λ y. y ∷ drop (i + 1) xf) e in
      let er : drop i xr ≡ a ∷ drop (i + 1) xr = drop_more xr i z (rw (length-map row h) lr) in
      let et : take (i + 1) xr ≡ take i xr ++ a ∷ [] = take_more xr i z (rw (length-map row h) lr) in
      k ∙ rw (ef, er, et, laws.times f, less_at h z laws row i) (after_push (take i xr) a (sweep B f (drop (i + 1) xf) (drop (i + 1) xr)))

  -- past places that are zero in the pivot's row
  pub skip : {R : Type 0} (h : R → Enclosure) (z : Enclosure) (laws : ZeroLaws B h z) (f : Enclosure) (first old row : List R) (d i n : ℕ) → i + d ≡ n → n ≤ length first → n ≤ length row
      → ((j : ℕ) → i ≤ j → j < n → get_or (map h first) j z ≡ z) → SweptTo B h f first old row i → SweptTo B h f first old row n
  skip h z laws f first old row zero i n e lf lr zeros k = subst (λ m. SweptTo B h f first old row m) (omega arith) k
  skip h z laws f first old row (suc d) i n e lf lr zeros k =
      skip h z laws f first old row d (i + 1) n (omega arith) lf lr (λ j l m. zeros j (omega arith) m)
      (skip_one h z laws f first old row i (omega arith) (omega arith) (zeros i (omega arith) (omega arith)) k)

  pub swept_none : {R : Type 0} (h : R → Enclosure) (f : Enclosure) (first row : List R) → SweptTo B h f first row row 0
  swept_none h f first row = sym (after_none (sweep B f (map h first) (map h row)))

  -- an entry where the pivot's row is zero stays
  pub stays_same : (f z a0 a t d : Enclosure) → ((g : Enclosure) → mul g z ≡ Some z) → sub a z ≡ Some a → a0 ≡ z → Some t ≡ mul f a0 → Some d ≡ sub a t → d ≡ a
  stays_same f z a0 a t d times less e em es =
      let et : Some t ≡ Some z = em ∙ ap (mul f) e ∙ times f in
      let tz : t ≡ z = cc in
      let ed : Some d ≡ Some a = es ∙ ap (sub a) tz ∙ less in
      cc

  pub agree_more : {R : Type 0} (h : R → Enclosure) (z : Enclosure) (laws : ZeroLaws B h z) (f t : Enclosure) (first row : List R) (ys : List Enclosure) (i : ℕ) (a0 a d : R) → i < length first → i < length row
      → a0 ≡ get_or first i a0 → a ≡ get_or row i a → Some t ≡ mul f (h a0) → Some (h d) ≡ sub (h a) t
      → ((j : ℕ) → get_or (map h first) j z ≡ z → get_or (map h row) j z ≡ get_or ys j z)
      → (j : ℕ) → get_or (map h first) j z ≡ z → get_or (map h (set row i d)) j z ≡ get_or ys j z
  agree_more h z laws f t first row ys i a0 a d lf lr ef er em es k j zero_there =
      ⊎_elim
      (λ (s : j ≡ i).
      let e0 : h a0 ≡ z = sym (get_or-map h first i a0 z lf ∙ ap h (sym ef)) ∙ ap (λ m. get_or (map h first) m z) (sym s) ∙ zero_there in
      let ea : get_or (map h row) i z ≡ h a = get_or-map h row i a z lr ∙ ap h (sym er) in
      let ed : h d ≡ h a = stays_same f z (h a0) (h a) t (h d) laws.times (laws.less a) e0 em es in
      rw (map-set h row i d, s) (get_or-set_same (map h row) i (h d) z (rw (length-map row h) lr) ∙ ed ∙ sym ea ∙ ap (λ m. get_or (map h row) m z) (sym s) ∙ k j zero_there ∙ ap (λ m. get_or ys m z) s))
      (λ (n : j ≢ i). rw (map-set h row i d) (get_or-set_other (map h row) i j (h d) z n ∙ k j zero_there))
      (same_or_not j i)
