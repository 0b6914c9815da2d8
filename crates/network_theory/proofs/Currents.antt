-- The currents that a network's admittances give at voltages, and the laws of branches.
use Rattle.std.proofs.Common.{◌≡◌, ◌≢◌, ℕ, zero, suc, ◌+◌, List, [], ◌∷◌, refl, subst, sym, arith, ◌∙◌}
use Rattle.std.specs.Prelude.{Contains, slice_get, Some}
use Rattle.std.specs.List.{AllByRecursion}
use Rattle.exact_algebra.specs.Complex.{Complex, complex_numbers}
use Rattle.exact_algebra.proofs.Complexes.{complex_field}
use Rattle.exact_algebra.proofs.Reader.{reads, ring, linear, weigh, join, none_left}
use Rattle.network_theory.specs.Order.{Order}
use Rattle.network_theory.specs.Branch.{Tap, Branch, Law, Coupled3, Coupling}
use Rattle.network_theory.specs.Network.{Network, IsGroup}
use Rattle.network_theory.specs.Live.{Carries, itself, by_group}
use Rattle.network_theory.specs.State.{KeepsLaw, leaving}
use Rattle.network_theory.specs.Admittance.{Part, Alone, Group, HasAdmittance, alone, group, IsAdmittance, IsGroupAdmittance, flatten, branches_of}
use Rattle.network_theory.proofs.Numbers.{R, one_at-apart, same_node}
use Rattle.network_theory.proofs.Sums.{ratio_at, leaving_by-is}
use Rattle.network_theory.specs.Current.{by_row, current_of}
use Rattle.network_theory.proofs.Carried.{carried}
use Rattle.network_theory.proofs.Laws.{law-current, current-law, GroupCurrents, GroupLaws, group-currents, group-laws}
open complex_numbers use {◌≈◌, nought, unit, ◌⊕◌, ◌⊗◌, minus}
open complex_field use {same, back, next, add_same, mul_same, minus_same}

abbrev C : Type 0
C = Complex

pub leaving-current_of : (ps : List Part) (f : Branch → C) (n : ℕ) → leaving (flatten ps) (current_of ps f) n ≈ carried ps f n
leaving-current_of [] f n = same _
leaving-current_of (Alone b y ∷ ps) f n = add_same (leaving_by-is b.taps (y ⊗ f b) n) (leaving-current_of ps f n)
leaving-current_of (Group a b c Y ∷ ps) f n =
    next (add_same (leaving_by-is a.taps _ n) (add_same (leaving_by-is b.taps _ n) (add_same (leaving_by-is c.taps _ n) (leaving-current_of ps f n))))
    (turn _ _ _ _)
  where
    turn : (x y z w : C) → x ⊕ (y ⊕ (z ⊕ w)) ≈ (x ⊕ (y ⊕ z)) ⊕ w
    turn x y z w = ring R (x ∷ y ∷ z ∷ w ∷ []) (search reads depth 40 fits 4000) none_left

-- the ratios at a node, times a current that matters only where there is a tap
ratio_at-along : (taps : List Tap) (n : ℕ) (x y : C) → ((t : Tap) → Contains taps t → t.node ≡ n → x ≈ y) → ratio_at taps n ⊗ x ≈ ratio_at taps n ⊗ y
ratio_at-along [] n x y h = ring R (x ∷ y ∷ []) (search reads depth 40 fits 4000) none_left
ratio_at-along (t ∷ taps) n x y h =
    elim (same_node t.node n) [
      | yes e ↦ mul_same (same _) (h t (0, omega arith, refl) e)
      | no q ↦ apart _ _ _ (one_at-apart t.node n q) (ratio_at-along taps n x y (λ u k. h u (suc k.0, omega (arith, k.1), k.2)))
    ]
  where
    apart : (o r a : C) → o ≈ nought → a ⊗ x ≈ a ⊗ y → (o ⊗ r ⊕ a) ⊗ x ≈ (o ⊗ r ⊕ a) ⊗ y
    apart o r a p q = linear R (o ∷ r ∷ a ∷ x ∷ y ∷ []) (join R (weigh R (r ⊗ x ⊕ minus (r ⊗ y)) p) (weigh R unit q)) (search reads depth 40 fits 4000) none_left

-- what leaves a node rests on the currents of the branches with a tap there
pub leaving-along : (bs : List Branch) (I K : ℕ → C) (n : ℕ) → ((i : ℕ) (b : Branch) → slice_get bs i ≡ Some b → (t : Tap) → Contains b.taps t → t.node ≡ n → I i ≈ K i) → leaving bs I n ≈ leaving bs K n
leaving-along [] I K n h = same _
leaving-along (b ∷ bs) I K n h =
    add_same (next (leaving_by-is b.taps (I 0) n) (next (ratio_at-along b.taps n (I 0) (K 0) (h 0 b refl)) (back (leaving_by-is b.taps (K 0) n))))
    (leaving-along bs (λ i. I (suc i)) (λ i. K (suc i)) n (λ i. h (suc i)))

row-zero : (x y z u v w : C) → u ≈ nought → v ≈ nought → w ≈ nought → by_row x y z u v w ≈ nought
row-zero x y z u v w p q r = linear R (x ∷ y ∷ z ∷ u ∷ v ∷ w ∷ []) (join R (weigh R x p) (join R (weigh R y q) (weigh R z r))) (search reads depth 40 fits 4000) none_left

pub current_of-zero : (ps : List Part) (f : Branch → C) → ((b : Branch) → f b ≈ nought) → (i : ℕ) → current_of ps f i ≈ nought
current_of-zero [] f h i = same _
current_of-zero (Alone b y ∷ ps) f h zero = next (mul_same (same y) (h b)) (ring R (y ∷ []) (search reads depth 40 fits 4000) none_left)
current_of-zero (Alone b y ∷ ps) f h (suc i) = current_of-zero ps f h i
current_of-zero (Group a b c Y ∷ ps) f h zero = row-zero _ _ _ _ _ _ (h a) (h b) (h c)
current_of-zero (Group a b c Y ∷ ps) f h (suc zero) = row-zero _ _ _ _ _ _ (h a) (h b) (h c)
current_of-zero (Group a b c Y ∷ ps) f h (suc (suc zero)) = row-zero _ _ _ _ _ _ (h a) (h b) (h c)
current_of-zero (Group a b c Y ∷ ps) f h (suc (suc (suc i))) = current_of-zero ps f h i

-- of two branches of one group both carry a current or none does
carries-group : (network : Network) (x y : Branch) → Contains network.branches x → x.group ≢ 0 → x.group ≡ y.group → Carries network x → Carries network y
carries-group network x y k n e (itself l) = by_group x k n e l
carries-group network x y k n e (by_group o m p q l) = by_group o m p (q ∙ e) l

module _ (network : Network) (h : Order) (I : ℕ → C) (f : Branch → C) where
  abbrev pub Ready : Part → Type 0
  Ready p = (b : Branch) → Contains (branches_of p) b → Carries network b → HasAdmittance h p

  -- the laws of the branches of the parts, the first of which is at place o
  abbrev pub LawsFrom : ℕ → List Part → Type 0
  LawsFrom o ps = (i : ℕ) (b : Branch) → slice_get (flatten ps) i ≡ Some b → Carries network b → KeepsLaw b.law h I (o + i) (f b)

  get-contains : {X : Type 0} (xs : List X) (i : ℕ) (x : X) → slice_get xs i ≡ Some x → Contains xs x
  get-contains [] i x e = absurd cc
  get-contains (y ∷ xs) zero x e = (0, omega arith, cc)
  get-contains (y ∷ xs) (suc i) x e = let k = get-contains xs i x e in (suc k.0, omega (arith, k.1), k.2)

  later : {X : Type 0} (xs : List X) (y x : X) → Contains xs x → Contains (y ∷ xs) x
  later xs y x k = (suc k.0, omega (arith, k.1), k.2)

  abbrev Inside : List Part → Type 0
  Inside ps = (b : Branch) → Contains (flatten ps) b → Contains network.branches b

  -- the three laws of a group, from one that carries
  three-laws : (o : ℕ) (a b c : Branch) (Y : ℕ → ℕ → C) (ps : List Part) (g : IsGroup a b c) → Carries network a → Carries network b → Carries network c → LawsFrom o (Group a b c Y ∷ ps)
      → GroupLaws g.first.values g.second.values g.third.values h I o (f a) (f b) (f c)
  three-laws o a b c Y ps g ca cb cc' l = record {
    first = subst (λ k. KeepsLaw (Coupled3 0 g.first.values) h I k (f a)) (add_none o) (subst (λ k. KeepsLaw k h I (o + 0) (f a)) g.first.law (l 0 a refl ca));
    second = subst (λ k. KeepsLaw k h I (o + 1) (f b)) g.second.law (l 1 b refl cb);
    third = subst (λ k. KeepsLaw k h I (o + 2) (f c)) g.third.law (l 2 c refl cc');
  }
    where
      add_none : (o : ℕ) → o + 0 ≡ o
      add_none o = omega arith

  inside-alone : (b : Branch) (y : C) (ps : List Part) → Inside (Alone b y ∷ ps) → Inside ps
  inside-alone b y ps s x k = s x (later (flatten ps) b x k)

  inside-group : (a b c : Branch) (Y : ℕ → ℕ → C) (ps : List Part) → Inside (Group a b c Y ∷ ps) → Inside ps
  inside-group a b c Y ps s x k = s x (later (b ∷ c ∷ flatten ps) a x (later (c ∷ flatten ps) b x (later (flatten ps) c x k)))

  along_place : (o k : ℕ) (l : Law) (d : C) → o ≡ k → KeepsLaw l h I o d → KeepsLaw l h I k d
  along_place o k l d e = subst (λ j. KeepsLaw l h I j d) e

  laws-alone : (o : ℕ) (b : Branch) (y : C) (ps : List Part) → LawsFrom o (Alone b y ∷ ps) → LawsFrom (suc o) ps
  laws-alone o b y ps l i x e k = along_place (o + suc i) (suc o + i) x.law (f x) (omega arith) (l (suc i) x e k)

  laws-group : (o : ℕ) (a b c : Branch) (Y : ℕ → ℕ → C) (ps : List Part) → LawsFrom o (Group a b c Y ∷ ps) → LawsFrom (o + 3) ps
  laws-group o a b c Y ps l i x e k = along_place (o + suc (suc (suc i))) (o + 3 + i) x.law (f x) (omega arith) (l (suc (suc (suc i))) x e k)

  -- each of a group carries, where one does
  record AllCarry (a b c : Branch) : Type 0 where
    first : Carries network a
    second : Carries network b
    third : Carries network c

  some : {x y : Branch} → Some x ≡ Some y → x ≡ y
  some e = cc

  -- the branches of a part and of the network
  in_first : (a b c : Branch) → Contains (a ∷ b ∷ c ∷ []) a
  in_first a b c = (0, omega arith, refl)

  in_second : (a b c : Branch) → Contains (a ∷ b ∷ c ∷ []) b
  in_second a b c = (1, omega arith, refl)

  in_third : (a b c : Branch) → Contains (a ∷ b ∷ c ∷ []) c
  in_third a b c = (2, omega arith, refl)

  head_in : (b : Branch) (bs : List Branch) → Contains (b ∷ bs) b
  head_in b bs = (0, omega arith, refl)

  data OneOf (a b c x : Branch) : Type 0 where
    is_first : a ≡ x → OneOf a b c x
    is_second : b ≡ x → OneOf a b c x
    is_third : c ≡ x → OneOf a b c x

  all_carry : (a b c : Branch) (Y : ℕ → ℕ → C) (ps : List Part) → Inside (Group a b c Y ∷ ps) → IsGroup a b c → (x : Branch) → OneOf a b c x → Carries network x → AllCarry a b c
  all_carry a b c Y ps s g x (is_first e) k =
      let ka : Carries network a = subst (λ z. Carries network z) (sym e) k in
      let ma = s a (head_in a (b ∷ c ∷ flatten ps)) in
      record { first = ka; second = carries-group network a b ma g.number (sym g.same_second) ka; third = carries-group network a c ma g.number (sym g.same_third) ka }
  all_carry a b c Y ps s g x (is_second e) k =
      let kb : Carries network b = subst (λ z. Carries network z) (sym e) k in
      let mb = s b (later (b ∷ c ∷ flatten ps) a b (head_in b (c ∷ flatten ps))) in
      let n : b.group ≢ 0 = λ q. g.number (sym g.same_second ∙ q) in
      record { first = carries-group network b a mb n g.same_second kb; second = kb; third = carries-group network b c mb n (g.same_second ∙ sym g.same_third) kb }
  all_carry a b c Y ps s g x (is_third e) k =
      let kc : Carries network c = subst (λ z. Carries network z) (sym e) k in
      let mc = s c (later (b ∷ c ∷ flatten ps) a c (later (c ∷ flatten ps) b c (head_in c (flatten ps)))) in
      let n : c.group ≢ 0 = λ q. g.number (sym g.same_third ∙ q) in
      record { first = carries-group network c a mc n g.same_third kc; second = carries-group network c b mc n (g.same_third ∙ sym g.same_second) kc; third = kc }

  -- what a part's admittance says
  of_alone : (b : Branch) (y : C) → HasAdmittance h (Alone b y) → IsAdmittance h b.law y
  of_alone b y (alone _ _ a) = a

  record GroupHas (a b c : Branch) (Y : ℕ → ℕ → C) : Type 0 where
    «is» : IsGroup a b c
    has : IsGroupAdmittance h «is».first.values «is».second.values «is».third.values Y

  of_group : (a b c : Branch) (Y : ℕ → ℕ → C) → HasAdmittance h (Group a b c Y) → GroupHas a b c Y
  of_group a b c Y (group _ _ _ _ g i) = record { «is» = g; has = i }

  group-flow : (o : ℕ) (a b c : Branch) (Y : ℕ → ℕ → C) (ps : List Part) → Inside (Group a b c Y ∷ ps) → LawsFrom o (Group a b c Y ∷ ps) → HasAdmittance h (Group a b c Y) → (x : Branch) → OneOf a b c x → Carries network x
      → GroupCurrents Y I o (f a) (f b) (f c)
  group-flow o a b c Y ps s l m x w k =
      let g = of_group a b c Y m in
      let t = all_carry a b c Y ps s g.«is» x w k in
      group-currents _ _ _ h Y I o (f a) (f b) (f c) g.has (three-laws o a b c Y ps g.«is» t.first t.second t.third l)

  at_place : (o k : ℕ) (y : C) → o ≡ k → I o ≈ y → I k ≈ y
  at_place o k y e = subst (λ j. I j ≈ y) e

  -- a branch that carries has the current of the admittances
  pub flow : (ps : List Part) (o : ℕ) → AllByRecursion Ready ps → Inside ps → LawsFrom o ps → (i : ℕ) (x : Branch) → slice_get (flatten ps) i ≡ Some x → Carries network x → I (o + i) ≈ current_of ps f i
  flow [] o r s l i x e k = absurd cc
  flow (Alone b y ∷ ps) o r s l zero x e k =
      let q : b ≡ x = some e in
      let kb : Carries network b = subst (λ z. Carries network z) (sym q) k in
      law-current b.law h y I (o + 0) (f b) (of_alone b y (r.0 b (head_in b []) kb)) (l 0 b refl kb)
  flow (Alone b y ∷ ps) o r s l (suc i) x e k =
      at_place (suc o + i) (o + suc i) _ (omega arith) (flow ps (suc o) r.1 (inside-alone b y ps s) (laws-alone o b y ps l) i x e k)
  flow (Group a b c Y ∷ ps) o r s l zero x e k =
      let w : OneOf a b c x = is_first (some e) in
      at_place o (o + 0) _ (omega arith) (group-flow o a b c Y ps s l (r.0 x (subst (λ z. Contains (a ∷ b ∷ c ∷ []) z) (some e) (in_first a b c)) k) x w k).first
  flow (Group a b c Y ∷ ps) o r s l (suc zero) x e k =
      let w : OneOf a b c x = is_second (some e) in
      (group-flow o a b c Y ps s l (r.0 x (subst (λ z. Contains (a ∷ b ∷ c ∷ []) z) (some e) (in_second a b c)) k) x w k).second
  flow (Group a b c Y ∷ ps) o r s l (suc (suc zero)) x e k =
      let w : OneOf a b c x = is_third (some e) in
      (group-flow o a b c Y ps s l (r.0 x (subst (λ z. Contains (a ∷ b ∷ c ∷ []) z) (some e) (in_third a b c)) k) x w k).third
  flow (Group a b c Y ∷ ps) o r s l (suc (suc (suc i))) x e k =
      at_place (o + 3 + i) (o + suc (suc (suc i))) _ (omega arith) (flow ps (o + 3) r.1 (inside-group a b c Y ps s) (laws-group o a b c Y ps l) i x e k)

  group-back : (o : ℕ) (a b c : Branch) (Y : ℕ → ℕ → C) (c1 c2 c3 : Coupling) → IsGroupAdmittance h c1 c2 c3 Y → I (o + 0) ≈ by_row (Y 0 0) (Y 0 1) (Y 0 2) (f a) (f b) (f c)
      → I (o + 1) ≈ by_row (Y 1 0) (Y 1 1) (Y 1 2) (f a) (f b) (f c) → I (o + 2) ≈ by_row (Y 2 0) (Y 2 1) (Y 2 2) (f a) (f b) (f c) → GroupLaws c1 c2 c3 h I o (f a) (f b) (f c)
  group-back o a b c Y c1 c2 c3 m p q r = group-laws c1 c2 c3 h Y I o (f a) (f b) (f c) m (record { first = at_place (o + 0) o _ (omega arith) p; second = q; third = r })

  along_law : (l l' : Law) (j : ℕ) (b x : Branch) → b ≡ x → l ≡ b.law → KeepsLaw l h I j (f b) → KeepsLaw x.law h I j (f x)
  along_law l l' j b x e q k = subst (λ z. KeepsLaw z.law h I j (f z)) e (subst (λ z. KeepsLaw z h I j (f b)) q k)

  -- currents of the admittances keep the laws
  pub kept : (ps : List Part) (o : ℕ) → AllByRecursion Ready ps → ((i : ℕ) → I (o + i) ≈ current_of ps f i) → LawsFrom o ps
  kept [] o r m i x e k = absurd cc
  kept (Alone b y ∷ ps) o r m zero x e k =
      let q : b ≡ x = some e in
      let kb : Carries network b = subst (λ z. Carries network z) (sym q) k in
      along_law b.law b.law (o + 0) b x q refl (current-law b.law h y I (o + 0) (f b) (of_alone b y (r.0 b (head_in b []) kb)) (m 0))
  kept (Alone b y ∷ ps) o r m (suc i) x e k =
      along_place (suc o + i) (o + suc i) x.law (f x) (omega arith) (kept ps (suc o) r.1 (λ j. at_place (o + suc j) (suc o + j) _ (omega arith) (m (suc j))) i x e k)
  kept (Group a b c Y ∷ ps) o r m zero x e k =
      let g = of_group a b c Y (r.0 x (subst (λ z. Contains (a ∷ b ∷ c ∷ []) z) (some e) (in_first a b c)) k) in
      along_law _ x.law (o + 0) a x (some e) (sym g.«is».first.law) (along_place o (o + 0) (Coupled3 0 g.«is».first.values) (f a) (omega arith) (group-back o a b c Y _ _ _ g.has (m 0) (m 1) (m 2)).first)
  kept (Group a b c Y ∷ ps) o r m (suc zero) x e k =
      let g = of_group a b c Y (r.0 x (subst (λ z. Contains (a ∷ b ∷ c ∷ []) z) (some e) (in_second a b c)) k) in
      along_law _ x.law (o + 1) b x (some e) (sym g.«is».second.law) (group-back o a b c Y _ _ _ g.has (m 0) (m 1) (m 2)).second
  kept (Group a b c Y ∷ ps) o r m (suc (suc zero)) x e k =
      let g = of_group a b c Y (r.0 x (subst (λ z. Contains (a ∷ b ∷ c ∷ []) z) (some e) (in_third a b c)) k) in
      along_law _ x.law (o + 2) c x (some e) (sym g.«is».third.law) (group-back o a b c Y _ _ _ g.has (m 0) (m 1) (m 2)).third
  kept (Group a b c Y ∷ ps) o r m (suc (suc (suc i))) x e k =
      along_place (o + 3 + i) (o + suc (suc (suc i))) x.law (f x) (omega arith)
      (kept ps (o + 3) r.1 (λ j. at_place (o + suc (suc (suc j))) (o + 3 + j) _ (omega arith) (m (suc (suc (suc j))))) i x e k)
