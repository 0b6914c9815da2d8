-- From the nodal equations to driving-point impedances, and back.
use Rattle.std.proofs.Common.{◌≡◌, ◌≢◌, ℕ, zero, suc, ◌<◌, List, [], ◌∷◌, map, ap, refl, subst, sym, arith, ◌∙◌, length, get_or, take, inl, inr}
use Rattle.std.specs.List.{AllZip, AllByRecursion}
use Rattle.exact_algebra.specs.Complex.{Complex, complex_numbers}
use Rattle.exact_algebra.proofs.Complexes.{complex_field}
use Rattle.exact_algebra.proofs.Reader.{reads, ring, linear, weigh, join, none_left}
use Rattle.linear_systems.specs.Linear.{dot, Solves, Annuls, IsZeroList, IsInjective, IsDriven, HasOneSolution, IsSquare}
use Rattle.linear_systems.proofs.Complement as D
use Rattle.network_theory.specs.Order.{Order}
use Rattle.network_theory.specs.Network.{Network}
use Rattle.network_theory.specs.Live.{Live}
use Rattle.network_theory.specs.State.{State, drop, IsExactState}
use Rattle.network_theory.specs.DrivingPoint.{IsDrivingPoint, HasOnlyZeroState, no_injection, unit_at}
use Rattle.network_theory.specs.Admittance.{Part}
use Rattle.network_theory.specs.Nodal.{IsDistinct, IsNodalSystem, IsLast, nodal_entry}
use Rattle.network_theory.proofs.Numbers.{R, one_at, one_at-same, one_at-apart}
use Rattle.network_theory.proofs.Carried.{IsAmong}
use Rattle.network_theory.proofs.Currents.{current_of-zero}
use Rattle.network_theory.proofs.Bridge as B
use Rattle.network_theory.proofs.Only as O
open complex_numbers use {◌≈◌, nought, unit, ◌⊕◌, ◌⊗◌, minus}
open complex_field use {same, back, next, add_same, mul_same, minus_same}

abbrev C : Type 0
C = Complex

zip_back : (x y : List C) → AllZip ◌≈◌ x y → AllZip ◌≈◌ y x
zip_back [] [] h = tt
zip_back [] (b ∷ y) h = absurd h
zip_back (a ∷ x) [] h = absurd h
zip_back (a ∷ x) (b ∷ y) h = (back h.0, zip_back x y h.1)

zip_next : (x y z : List C) → AllZip ◌≈◌ x y → AllZip ◌≈◌ y z → AllZip ◌≈◌ x z
zip_next [] [] [] h k = tt
zip_next [] [] (c ∷ z) h k = absurd k
zip_next [] (b ∷ y) z h k = absurd h
zip_next (a ∷ x) [] z h k = absurd h
zip_next (a ∷ x) (b ∷ y) [] h k = absurd k
zip_next (a ∷ x) (b ∷ y) (c ∷ z) h k = (next h.0 k.0, zip_next x y z h.1 k.1)

solves_along : (rows : List (List C)) (x y right : List C) → AllZip ◌≈◌ x y → Solves complex_numbers rows x right → Solves complex_numbers rows y right
solves_along [] x y [] z s = tt
solves_along [] x y (b ∷ right) z s = absurd s
solves_along (r ∷ rows) x y [] z s = absurd s
solves_along (r ∷ rows) x y (b ∷ right) z s = (next (D.dot_same complex_numbers complex_field r y x (zip_back x y z)) s.0, solves_along rows x y right z s.1)

pub solves_right : (rows : List (List C)) (x right other : List C) → AllZip ◌≈◌ right other → Solves complex_numbers rows x right → Solves complex_numbers rows x other
solves_right [] x [] [] z s = tt
solves_right [] x [] (b ∷ other) z s = absurd z
solves_right [] x (b ∷ right) other z s = absurd s
solves_right (r ∷ rows) x [] other z s = absurd s
solves_right (r ∷ rows) x (b ∷ right) [] z s = absurd z
solves_right (r ∷ rows) x (b ∷ right) (c ∷ other) z s = (next s.0 z.0, solves_right rows x right other z.1 s.1)

-- the right side zero
solves_annuls : (rows : List (List C)) (x : List C) (nodes : List ℕ) → Solves complex_numbers rows x (map no_injection nodes) → Annuls complex_numbers rows x
solves_annuls [] x nodes s = tt
solves_annuls (r ∷ rows) x [] s = absurd s
solves_annuls (r ∷ rows) x (n ∷ nodes) s = (s.0, solves_annuls rows x nodes s.1)

annuls_solves : (rows : List (List C)) (x : List C) (nodes : List ℕ) → length rows ≡ length nodes → Annuls complex_numbers rows x → Solves complex_numbers rows x (map no_injection nodes)
annuls_solves [] x [] l s = tt
annuls_solves [] x (n ∷ nodes) l s = absurd (omega arith)
annuls_solves (r ∷ rows) x [] l s = absurd (omega arith)
annuls_solves (r ∷ rows) x (n ∷ nodes) l s = (s.0, annuls_solves rows x nodes (omega arith) s.1)

zero_at : (V : ℕ → C) (nodes : List ℕ) → IsZeroList complex_numbers (map V nodes) → (n : ℕ) → IsAmong n nodes → V n ≈ nought
zero_at V [] z n i = absurd i
zero_at V (m ∷ nodes) z n (inl e) = subst (λ k. V k ≈ nought) (sym e) z.0
zero_at V (m ∷ nodes) z n (inr i) = zero_at V nodes z.1 n i

zero_list : (x y : List C) → AllZip ◌≈◌ x y → IsZeroList complex_numbers x → IsZeroList complex_numbers y
zero_list [] [] h z = tt
zero_list [] (b ∷ y) h z = absurd h
zero_list (a ∷ x) [] h z = absurd h
zero_list (a ∷ x) (b ∷ y) h z = (next (back h.0) z.0, zero_list x y h.1 z.1)

map_zero : (V : ℕ → C) (nodes : List ℕ) → ((n : ℕ) → IsAmong n nodes → V n ≈ nought) → IsZeroList complex_numbers (map V nodes)
map_zero V [] h = tt
map_zero V (m ∷ nodes) h = (h m (inl refl), map_zero V nodes (λ n i. h n (inr i)))

-- the injection 1 at the last node: all rows but the last give zero, and the last gives 1
unit_solves : (rows : List (List C)) (x : List C) (nodes : List ℕ) (n k : ℕ) → length rows ≡ suc n → length nodes ≡ suc n → IsDistinct nodes → get_or nodes n 0 ≡ k → Annuls complex_numbers (take n rows) x
    → dot complex_numbers (get_or rows n []) x ≈ unit → Solves complex_numbers rows x (map (unit_at k) nodes)
unit_solves [] x nodes n k l m d g a e = absurd (omega arith)
unit_solves (r ∷ rows) x [] n k l m d g a e = absurd (omega arith)
unit_solves (r ∷ []) x (j ∷ []) zero k l m d g a e = (next e (subst (λ i. unit ≈ one_at i j) g (back (one_at-same j))), tt)
unit_solves (r ∷ []) x (j ∷ i ∷ nodes) zero k l m d g a e = absurd (omega arith)
unit_solves (r ∷ q ∷ rows) x (j ∷ nodes) zero k l m d g a e = absurd (omega arith)
unit_solves (r ∷ rows) x (j ∷ nodes) (suc n) k l m d g a e = (
  next a.0 (back (one_at-apart k j (λ q. in_later nodes n (omega arith) d.0 (sym (g ∙ q))))),
  unit_solves rows x nodes n k (omega arith) (omega arith) d.1 g a.1 e,
)
  where
    in_later : (ks : List ℕ) (n : ℕ) → n < length ks → AllByRecursion (λ i. j ≢ i) ks → ¬ (j ≡ get_or ks n 0)
    in_later [] n l h = absurd (omega arith)
    in_later (i ∷ ks) zero l h = h.0
    in_later (i ∷ ks) (suc n) l h = in_later ks n (omega arith) h.1

-- an entry of a mapped list
map_at : (V : ℕ → C) (nodes : List ℕ) (x : List C) (n : ℕ) → AllZip ◌≈◌ (map V nodes) x → n < length nodes → V (get_or nodes n 0) ≈ get_or x n nought
map_at V [] x n z l = absurd (omega arith)
map_at V (j ∷ nodes) [] n z l = absurd z
map_at V (j ∷ nodes) (v ∷ x) zero z l = z.0
map_at V (j ∷ nodes) (v ∷ x) (suc n) z l = map_at V nodes x n z.1 (omega arith)

pub at_among : (nodes : List ℕ) (n : ℕ) → n < length nodes → IsAmong (get_or nodes n 0) nodes
at_among [] n l = absurd (omega arith)
at_among (j ∷ nodes) zero l = inl refl
at_among (j ∷ nodes) (suc n) l = inr (at_among nodes n (omega arith))

zip_length : {X Y : Type 0} (Q : X → Y → Type 0) (xs : List X) (ys : List Y) → AllZip Q xs ys → length ys ≡ length xs
zip_length Q [] [] h = refl
zip_length Q [] (y ∷ ys) h = absurd h
zip_length Q (x ∷ xs) [] h = absurd h
zip_length Q (x ∷ xs) (y ∷ ys) h = ap suc (zip_length Q xs ys h.1)

-- where a system has one solution for some right side, it is injective
abbrev sum_list : List C → List C → List C
sum_list [] ys = []
sum_list (x ∷ xs) [] = []
sum_list (x ∷ xs) (y ∷ ys) = (x ⊕ y) ∷ sum_list xs ys

dot-sum : (r x y : List C) → length x ≡ length y → dot complex_numbers r (sum_list x y) ≈ dot complex_numbers r x ⊕ dot complex_numbers r y
dot-sum [] x y l = ring R [] (search reads depth 40 fits 4000) none_left
dot-sum (a ∷ r) [] [] l = ring R [] (search reads depth 40 fits 4000) none_left
dot-sum (a ∷ r) [] (v ∷ y) l = absurd (omega arith)
dot-sum (a ∷ r) (u ∷ x) [] l = absurd (omega arith)
dot-sum (a ∷ r) (u ∷ x) (v ∷ y) l = step _ _ _ _ _ _ (dot-sum r x y (omega arith))
  where
    step : (a u v d p q : C) → d ≈ p ⊕ q → a ⊗ (u ⊕ v) ⊕ d ≈ (a ⊗ u ⊕ p) ⊕ (a ⊗ v ⊕ q)
    step a u v d p q h = linear R (a ∷ u ∷ v ∷ d ∷ p ∷ q ∷ []) (weigh R unit h) (search reads depth 40 fits 4000) none_left

sum_solves : (rows : List (List C)) (x y right : List C) → length x ≡ length y → Solves complex_numbers rows x right → Annuls complex_numbers rows y → Solves complex_numbers rows (sum_list x y) right
sum_solves [] x y [] l s a = tt
sum_solves [] x y (b ∷ right) l s a = absurd s
sum_solves (r ∷ rows) x y [] l s a = absurd s
sum_solves (r ∷ rows) x y (b ∷ right) l s a =
    (next (dot-sum r x y l) (next (add_same s.0 a.0) (complex_field.add_nought b)), sum_solves rows x y right l s.1 a.1)

sum_length : (x y : List C) → length x ≡ length y → length (sum_list x y) ≡ length x
sum_length [] [] l = refl
sum_length [] (v ∷ y) l = refl
sum_length (u ∷ x) [] l = absurd (omega arith)
sum_length (u ∷ x) (v ∷ y) l = ap suc (sum_length x y (omega arith))

zero_summand : (x y z : List C) → length x ≡ length y → AllZip ◌≈◌ (sum_list x y) z → AllZip ◌≈◌ x z → IsZeroList complex_numbers y
zero_summand [] [] z l h k = tt
zero_summand [] (v ∷ y) z l h k = absurd (omega arith)
zero_summand (u ∷ x) [] z l h k = absurd (omega arith)
zero_summand (u ∷ x) (v ∷ y) [] l h k = absurd k
zero_summand (u ∷ x) (v ∷ y) (w ∷ z) l h k = (step _ _ _ h.0 k.0, zero_summand x y z (omega arith) h.1 k.1)
  where
    step : (u v w : C) → u ⊕ v ≈ w → u ≈ w → v ≈ nought
    step u v w p q = linear R (u ∷ v ∷ w ∷ []) (join R (weigh R unit p) (weigh R (minus unit) q)) (search reads depth 40 fits 4000) none_left

zip_same : (x : List C) → AllZip ◌≈◌ x x
zip_same [] = tt
zip_same (u ∷ x) = (same u, zip_same x)

pub injective_from_one : (n : ℕ) (rows : List (List C)) (right : List C) → HasOneSolution complex_numbers n rows right → IsInjective complex_numbers n rows
injective_from_one n rows right o = record {
  only = λ x l a.
      let e : length o.solution ≡ length x = o.count ∙ sym l in
      let z = o.only (sum_list o.solution x) (sum_length o.solution x e ∙ o.count) (sum_solves rows o.solution x right e o.solves a) in
      zero_summand o.solution x o.solution e z (zip_same o.solution);
}

module _ (network : Network) (h : Order) (parts : List Part) (ordering : List ℕ) (rows : List (List C)) (S : IsNodalSystem network h parts ordering rows) where
  rows_length : length rows ≡ length ordering
  rows_length = zip_length (λ n row. AllZip (λ n' entry. entry ≈ nodal_entry parts n n') ordering row) ordering rows S.entries

  row_widths : (nodes : List ℕ) (rs : List (List C)) → AllZip (λ n row. AllZip (λ n' entry. entry ≈ nodal_entry parts n n') ordering row) nodes rs → AllByRecursion (λ r. length r ≡ length ordering) rs
  row_widths [] [] e = tt
  row_widths [] (r ∷ rs) e = absurd e
  row_widths (n ∷ nodes) [] e = absurd e
  row_widths (n ∷ nodes) (r ∷ rs) e = (zip_length (λ n' entry. entry ≈ nodal_entry parts n n') ordering r e.0, row_widths nodes rs e.1)

  -- the nodal matrix is square
  pub nodal_square : IsSquare complex_numbers (length ordering) rows
  nodal_square = record { count = rows_length; widths = row_widths ordering rows S.entries }

  dead_volt : (x : List C) → B.IsDead network h parts ordering rows S (B.volt ordering x)
  dead_volt x n l = B.volt-none ordering x n (λ i. l ((S.listed.live n).1 (B.among_contains n ordering i)))

  -- a solution is an exact state whose voltages are its entries
  pub solved_state : (J : ℕ → C) (x : List C) → length x ≡ length ordering → Solves complex_numbers rows x (map J ordering) → IsExactState network h J (B.state_of network h parts ordering rows S (B.volt ordering x))
  solved_state J x l s =
      B.solution_is_state network h parts ordering rows S J (B.volt ordering x) (dead_volt x)
      (solves_along rows x (map (B.volt ordering x) ordering) (map J ordering) (zip_back (map (B.volt ordering x) ordering) x (B.volt-map ordering x S.listed.distinct l)) s)

  -- an injective matrix has only the zero state
  pub only_zero_state : IsInjective complex_numbers (length ordering) rows → HasOnlyZeroState network h
  only_zero_state inj = record {
    zero = λ s x.
        let z = inj.only (map s.voltage ordering) (B.length-map s.voltage ordering) (solves_annuls rows (map s.voltage ordering) ordering (B.state_solves network h parts ordering rows S no_injection s x)) in
        let live : (n : ℕ) → Live network n → s.voltage n ≈ nought = λ n l. zero_at s.voltage ordering z n (B.contains_among n ordering ((S.listed.live n).0 l)) in
        let all : (n : ℕ) → s.voltage n ≈ nought = λ n. elim (B.is_live network h parts ordering rows S n) [ yes l ↦ live n l | no q ↦ x.dead n q ] in
        record {
          voltages = live;
          currents = λ i b e c. next (B.state-current network h parts ordering rows S no_injection s x i b e c) (current_of-zero parts (λ o. drop s.voltage o.taps) (λ o. B.drop-zero s.voltage all o.taps) i);
        };
  }

  -- and only then
  pub injective_matrix : HasOnlyZeroState network h → IsInjective complex_numbers (length ordering) rows
  injective_matrix o = record {
    only = λ x l a.
        let z = o.zero _ (solved_state no_injection x l (annuls_solves rows x ordering rows_length a)) in
        zero_list (map (B.volt ordering x) ordering) x (B.volt-map ordering x S.listed.distinct l)
        (map_zero (B.volt ordering x) ordering (λ n i. z.voltages n ((S.listed.live n).1 (B.among_contains n ordering i))));
  }

  -- the driving-point impedance, where the matrix has a complement y other than zero
  pub impedance : (n k : ℕ) (y Z : C) → IsLast ordering n k → IsDriven complex_numbers n rows y → Z ⊗ y ≈ unit → IsDrivingPoint network h k Z
  impedance n k y Z last d e =
      let l : length d.list ≡ length ordering = d.count ∙ sym last.count in
      let below : n < length ordering = subst (λ m. n < m) (sym last.count) (omega arith) in
      let s = unit_solves rows d.list ordering n k (rows_length ∙ last.count) last.count S.listed.distinct last.last d.annuls d.last in
      let v : B.volt ordering d.list k ≈ get_or d.list n nought = subst (λ j. B.volt ordering d.list j ≈ get_or d.list n nought) last.last (map_at (B.volt ordering d.list) ordering d.list n (B.volt-map ordering d.list S.listed.distinct l) below) in
      record {
        live = (S.listed.live k).1 (B.among_contains k ordering (subst (λ j. IsAmong j ordering) last.last (at_among ordering n below)));
        state = B.state_of network h parts ordering rows S (B.volt ordering d.list);
        exact = solved_state (unit_at k) d.list l s;
        at_node = next v (same_inverse (get_or d.list n nought) Z y d.ends e);
        only_zero = only_zero_state (subst (λ m. IsInjective complex_numbers m rows) (sym last.count) d.injective);
      }
    where
      same_inverse : (u w y : C) → u ⊗ y ≈ unit → w ⊗ y ≈ unit → u ≈ w
      same_inverse u w y p q = linear R (u ∷ w ∷ y ∷ []) (join R (weigh R (minus u) q) (weigh R w p)) (search reads depth 40 fits 4000) none_left

  -- the driving-point impedance, where the unit right side at the last row has one solution: its last entry
  pub impedance_of_solution : (n k : ℕ) → IsLast ordering n k → (one : HasOneSolution complex_numbers (length ordering) rows (map (unit_at k) ordering)) → IsDrivingPoint network h k (get_or one.solution n nought)
  impedance_of_solution n k last one =
      let below : n < length ordering = subst (λ m. n < m) (sym last.count) (omega arith) in
      record {
        live = (S.listed.live k).1 (B.among_contains k ordering (subst (λ j. IsAmong j ordering) last.last (at_among ordering n below)));
        state = B.state_of network h parts ordering rows S (B.volt ordering one.solution);
        exact = solved_state (unit_at k) one.solution one.count one.solves;
        at_node = subst (λ j. B.volt ordering one.solution j ≈ get_or one.solution n nought) last.last (map_at (B.volt ordering one.solution) ordering one.solution n (B.volt-map ordering one.solution S.listed.distinct one.count) below);
        only_zero = only_zero_state (injective_from_one (length ordering) rows (map (unit_at k) ordering) one);
      }

  -- the voltages of each exact state for J are the one solution
  pub voltages_of_solution : (J : ℕ → C) (one : HasOneSolution complex_numbers (length ordering) rows (map J ordering)) (s : State) → IsExactState network h J s → AllZip ◌≈◌ (map s.voltage ordering) one.solution
  voltages_of_solution J one s x = one.only (map s.voltage ordering) (B.length-map s.voltage ordering) (B.state_solves network h parts ordering rows S J s x)

  -- conversely, an impedance is the last entry of each solution for the unit right side
  pub solution_of_impedance : (n k : ℕ) (Z : C) → IsLast ordering n k → IsDrivingPoint network h k Z → (x : List C) → length x ≡ length ordering → Solves complex_numbers rows x (map (unit_at k) ordering) → get_or x n nought ≈ Z
  solution_of_impedance n k Z last d x l s =
      let below : n < length ordering = subst (λ m. n < m) (sym last.count) (omega arith) in
      let w = get_or x n nought in
      let p : IsDrivingPoint network h k w = record {
        live = d.live;
        state = B.state_of network h parts ordering rows S (B.volt ordering x);
        exact = solved_state (unit_at k) x l s;
        at_node = subst (λ j. B.volt ordering x j ≈ w) last.last (map_at (B.volt ordering x) ordering x n (B.volt-map ordering x S.listed.distinct l) below);
        only_zero = d.only_zero;
      } in
      O.only_impedance network h k w Z p d
