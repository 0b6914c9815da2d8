-- The right sides hold the injections.
use Rattle.std.proofs.Common.{◌≡◌, ◌≢◌, ◌∙◌, ℕ, suc, List, [], ◌∷◌, length, map, refl, sym, subst, ap, arith, Option, Ok, Err, Result}
use Rattle.std.proofs.lemmas.Int.{ints}
use Rattle.std.specs.Prelude.{Some, None, replicate, slice_set}
use Rattle.std.specs.List.{AllZip}
use Rattle.exact_algebra.specs.Ratio.{Ratio, ◌≼◌}
use Rattle.exact_algebra.specs.Complex.{Complex, complex_numbers, ◌+j◌}
use Rattle.exact_algebra.proofs.Complexes.{complex_field}
use Rattle.exact_algebra.proofs.Reader.{reads, ring, linear, weigh, join, none_left}
use Rattle.linear_systems.specs.Assembly.{where_equal}
use Rattle.complex_interval.specs.Ends.{Ends, Encloses, range_ends}
use Rattle.complex_interval.specs.Rectangles.{Rectangle, EnclosesComplex}
use Rattle.complex_interval.proofs.RectangleLaws.{add_encloses_rectangle}
use Rattle.complex_interval.proofs.Ranges.{range_encloses}
use Rattle.network_theory.specs.Nodal.{IsDistinct}
use Rattle.network_theory.proofs.Numbers.{R, one_at, where_equal-is, one_at-same, one_at-apart}
use Rattle.plain_elimination.specs.Matrix.{nought_rectangle}
use Rattle.node_injection.specs.Injected.{ExactInjection, injected}
use Rattle.admittance_box.proofs.HeldEntries.{item_set}
use Rattle.admittance_box.proofs.Laws.{nought_held}
use Rattle.admittance_box.proofs.HeldPairs.{along}
use Rattle.admittance_box.proofs.Laws.{plus_j_encloses}
use Rattle.admittance_box.proofs.LivePairs.{zip_map}
use Rattle.admittance_box.proofs.Steps.{bind-some}
use Rattle.distortion_bounds.specs.Solver.{with_injection, with_injections, right_sides, or_place}
use Rattle.distortion_bounds.specs.declared.solved.Solved.{Solved}
use Rattle.distortion_bounds.specs.declared.solved.Solved.TheVariants.{Done, InjectionOutOfRange}
open complex_numbers use {◌≈◌, nought, unit, ◌⊕◌, ◌⊗◌, minus}
open complex_field use {same, back, next}

abbrev C : Type 0
C = Complex

-- the right sides hold f of each node
abbrev Held : ℕ → List ℕ → (ℕ → C) → List Rectangle → Type 0
Held s ordering f right = AllZip (λ n v. EnclosesComplex s v (f n)) ordering right

held_along : (s : ℕ) (ordering : List ℕ) (f g : ℕ → C) (right : List Rectangle) → ((n : ℕ) → f n ≈ g n) → Held s ordering f right → Held s ordering g right
held_along s ordering f g right e = zip_map (λ n v. EnclosesComplex s v (f n)) (λ n v. EnclosesComplex s v (g n)) (λ n v. along s v (f n) (g n) (e n)) ordering right

kept : (a b : List Rectangle) → Some a ≡ Some b → a ≡ b
kept a b e = grind arith

taken : (a b : List Rectangle) → ◌≡◌ {A = Result (List Rectangle) Solved} (Ok a) (Ok b) → a ≡ b
taken a b e = grind arith

-- the interval of a fraction holds it
exact : (s : ℕ) (a : Ends) (x : Ratio) → range_ends s x x ≡ Some a → Encloses s a x
exact s a x e = range_encloses s x x x (self x) (self x) a e
  where
    self : (x : Ratio) → x ≼ x
    self x = record { cross = omega (arith, ints) }

module _ (s : ℕ) (ordering : List ℕ) (distinct : IsDistinct ordering) where
  -- with the current of an injection at its node
  one_held : (at : ExactInjection) (right after : List Rectangle) (f : ℕ → C) → with_injection s ordering at right ≡ Some after → Held s ordering f right → Held s ordering (λ n. f n ⊕ where_equal complex_numbers at.node n (at.re +j at.im)) after
  one_held at right after f e held =
      let (re, e1, n1) = bind-some _ _ after e in
      let (im, e2, n2) = bind-some _ _ after n1 in
      let (place, e3, n3) = bind-some _ _ after n2 in
      let (before, e4, n4) = bind-some _ _ after n3 in
      let (sum, e5, e6) = bind-some _ _ after n4 in
      let is : slice_set right place sum ≡ after = kept (slice_set right place sum) after e6 in
      let x = at.re +j at.im in
      let here : EnclosesComplex s (record { re = re; im = im }) x = plus_j_encloses s re im at.re at.im (exact s re at.re e1) (exact s im at.im e2) in
      subst (Held s ordering (λ n. f n ⊕ where_equal complex_numbers at.node n x)) is
      (item_set (λ n v. EnclosesComplex s v (f n)) (λ n v. EnclosesComplex s v (f n ⊕ where_equal complex_numbers at.node n x)) at.node sum
      (λ m z ne h. along s z (f m) (f m ⊕ where_equal complex_numbers at.node m x) (other m (f m) x ne) h)
      ordering right place before distinct e3 e4 held
      (λ h. along s sum (f at.node ⊕ x) (f at.node ⊕ where_equal complex_numbers at.node at.node x) (own (f at.node) x) (add_encloses_rectangle s before (record { re = re; im = im }) sum (f at.node) x h here e5)))
    where
      other : (m : ℕ) (a x : C) → m ≢ at.node → a ≈ a ⊕ where_equal complex_numbers at.node m x
      other m a x ne = go (one_at at.node m) a x _ (where_equal-is at.node m x) (one_at-apart at.node m (λ q. ne (sym q)))
        where
          go : (o a x w : C) → w ≈ o ⊗ x → o ≈ nought → a ≈ a ⊕ w
          go o a x w p q = linear R (o ∷ a ∷ x ∷ w ∷ []) (join R (weigh R (minus unit) p) (weigh R (minus x) q)) (search reads depth 40 fits 4000) none_left

      own : (a x : C) → a ⊕ x ≈ a ⊕ where_equal complex_numbers at.node at.node x
      own a x = go (one_at at.node at.node) a x _ (where_equal-is at.node at.node x) (one_at-same at.node)
        where
          go : (o a x w : C) → w ≈ o ⊗ x → o ≈ unit → a ⊕ x ≈ a ⊕ w
          go o a x w p q = linear R (o ∷ a ∷ x ∷ w ∷ []) (join R (weigh R (minus unit) p) (weigh R (minus x) q)) (search reads depth 40 fits 4000) none_left

  -- and of each of a list
  all_held : (list : List ExactInjection) (place : ℕ) (right after : List Rectangle) (f : ℕ → C) → with_injections s ordering place list right ≡ Ok after → Held s ordering f right → Held s ordering (λ n. f n ⊕ injected list n) after
  all_held [] place right after f e held =
      let is : right ≡ after = taken right after e in
      subst (Held s ordering (λ n. f n ⊕ nought)) is (held_along s ordering f (λ n. f n ⊕ nought) right (λ n. none (f n)) held)
    where
      none : (a : C) → a ≈ a ⊕ nought
      none a = ring R (a ∷ []) (search reads depth 40 fits 4000) none_left
  all_held (at ∷ list) place right after f e held =
      go (with_injection s ordering at right) refl e (λ mid g m k. all_held list (suc place) mid after g m k)
    where
      go : (o : Option (List Rectangle)) → with_injection s ordering at right ≡ o → or_place place o (with_injections s ordering (suc place) list) ≡ Ok after
          → ((mid : List Rectangle) (g : ℕ → C) → with_injections s ordering (suc place) list mid ≡ Ok after → Held s ordering g mid → Held s ordering (λ n. g n ⊕ injected list n) after) → Held s ordering (λ n. f n ⊕ injected (at ∷ list) n) after
      go None k m more = absurd cc
      go (Some mid) k m more =
          let x = at.re +j at.im in
          held_along s ordering (λ n. (f n ⊕ where_equal complex_numbers at.node n x) ⊕ injected list n) (λ n. f n ⊕ injected (at ∷ list) n) after (λ n. regroup (f n) (where_equal complex_numbers at.node n x) (injected list n))
          (more mid (λ n. f n ⊕ where_equal complex_numbers at.node n x) m (one_held at right mid f k held))
        where
          regroup : (a b c : C) → (a ⊕ b) ⊕ c ≈ a ⊕ (b ⊕ c)
          regroup a b c = ring R (a ∷ b ∷ c ∷ []) (search reads depth 40 fits 4000) none_left

-- zeros hold nought
zeros_held : (s : ℕ) (ordering : List ℕ) → Held s ordering (λ n. nought) (replicate (length ordering) nought_rectangle)
zeros_held s [] = tt
zeros_held s (n ∷ ordering) = (nought_held s, zeros_held s ordering)

as_list : (s : ℕ) (ordering : List ℕ) (f : ℕ → C) (right : List Rectangle) → Held s ordering f right → AllZip (EnclosesComplex s) right (map f ordering)
as_list s [] f [] h = tt
as_list s [] f (v ∷ right) h = absurd h
as_list s (n ∷ ordering) f [] h = absurd h
as_list s (n ∷ ordering) f (v ∷ right) h = (h.0, as_list s ordering f right h.1)

-- so the right sides of an order hold the injection of each node
pub right_held : (s : ℕ) (ordering : List ℕ) (list : List ExactInjection) (right : List Rectangle) → IsDistinct ordering → right_sides s ordering list ≡ Ok right → AllZip (EnclosesComplex s) right (map (injected list) ordering)
right_held s ordering list right distinct e =
    as_list s ordering (injected list) right
    (held_along s ordering (λ n. nought ⊕ injected list n) (injected list) right (λ n. plain (injected list n))
    (all_held s ordering distinct list 1 (replicate (length ordering) nought_rectangle) right (λ n. nought) e (zeros_held s ordering)))
  where
    plain : (a : C) → nought ⊕ a ≈ a
    plain a = ring R (a ∷ []) (search reads depth 40 fits 4000) none_left

-- and there are as many as nodes
pub zip_length : {X Y : Type 0} (P : X → Y → Type 0) (f : ℕ → Y) (xs : List X) (ordering : List ℕ) → AllZip P xs (map f ordering) → length xs ≡ length ordering
zip_length P f [] [] h = refl
zip_length P f [] (n ∷ ordering) h = absurd h
zip_length P f (x ∷ xs) [] h = absurd h
zip_length P f (x ∷ xs) (n ∷ ordering) h = ap suc (zip_length P f xs ordering h.1)

-- an answer in place of right sides isn't `Done`
pub never_done : (s : ℕ) (ordering : List ℕ) (list : List ExactInjection) (place : ℕ) (right : List Rectangle) (answer : Solved) → with_injections s ordering place list right ≡ Err answer → answer ≡ Done → ⊥
never_done s ordering [] place right answer e d = absurd cc
never_done s ordering (at ∷ list) place right answer e d = go (with_injection s ordering at right) e (λ mid f. never_done s ordering list (suc place) mid answer f d)
  where
    go : (o : Option (List Rectangle)) → or_place place o (with_injections s ordering (suc place) list) ≡ Err answer → ((mid : List Rectangle) → with_injections s ordering (suc place) list mid ≡ Err answer → ⊥) → ⊥
    go None f more = let is : InjectionOutOfRange place ≡ answer = grind arith in absurd (let at_once : InjectionOutOfRange place ≡ Done = is ∙ d in cc)
    go (Some mid) f more = more mid f
