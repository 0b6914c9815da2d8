-- Networks of one node.
use Rattle.std.proofs.Common.{◌≡◌, ℕ, zero, suc, ◌<◌, pos, List, [], ◌∷◌, ap, refl, subst, sym, arith, ◌∙◌, get_or}
use Rattle.std.specs.Prelude.{Contains}
use Rattle.std.specs.List.{AllByRecursion, AllZip}
use Rattle.exact_algebra.specs.Ratio.{whole, times}
use Rattle.exact_algebra.specs.Complex.{Complex, complex_numbers, complex_whole, real}
use Rattle.exact_algebra.proofs.Complexes.{complex_field}
use Rattle.exact_algebra.proofs.Reader.{reads, linear, weigh, join, none_left}
use Rattle.exact_algebra.proofs.Reals.{real-times}
use Rattle.linear_systems.proofs.Instances.{complex_complement}
use Rattle.network_theory.specs.Order.{Order}
use Rattle.network_theory.specs.Branch.{Tap, Branch}
use Rattle.network_theory.specs.Network.{Network}
use Rattle.network_theory.specs.Live.{Live, grounded, joined, Carries}
use Rattle.network_theory.specs.Admittance.{Part, Alone, HasAdmittance, alone, IsAdmittance, branches_of, flatten}
use Rattle.network_theory.specs.Nodal.{IsNodalSystem, nodal_entry}
use Rattle.network_theory.specs.Reduced.{IsReducedTo}
use Rattle.network_theory.specs.OneNode.{ground_tap, IsOneNode, sum_of}
use Rattle.network_theory.proofs.Numbers.{R}
open complex_numbers use {◌≈◌, nought, unit, ◌⊕◌, ◌⊗◌}
open complex_field use {same, back, next, add_same, mul_same}

pub real-unit : real (whole (pos 1)) ≈ unit
unfolding real whole complex_whole
real-unit = same _

tap_of : (taps : List Tap) (u : Tap) → taps ≡ ground_tap ∷ [] → Contains taps u → u.node ≡ 0
tap_of taps u e k =
    let c : Contains (ground_tap ∷ []) u = subst (λ ts. Contains ts u) e k in
    go c.0 c.1 c.2
  where
    go : (i : ℕ) → i < 1 → get_or (ground_tap ∷ []) i u ≡ u → u.node ≡ 0
    go zero p q = ap (λ z. z.node) (sym q)
    go (suc i) p q = absurd (omega arith)

first_tap : (t : Tap) → ground_tap ∷ [] ≡ t ∷ [] → t.node ≡ 0
first_tap t e = let q : ground_tap ≡ t = cc in ap (λ z. z.node) (sym q)

-- its one live node is 0
pub only_node : (network : Network) → IsOneNode network → (n : ℕ) → Live network n → n ≡ 0
only_node network o n (grounded b t k e) = first_tap t (sym (o.each b k) ∙ e)
only_node network o n (joined b t u k p q l) = tap_of b.taps u (o.each b k) q

pub node_live : (network : Network) → IsOneNode network → Live network 0
node_live network o = grounded o.first ground_tap o.has (o.each o.first o.has)

-- the branches with their admittances
pub ground_parts : List Branch → List Complex → List Part
ground_parts [] ys = []
ground_parts (b ∷ bs) [] = []
ground_parts (b ∷ bs) (y ∷ ys) = Alone b y ∷ ground_parts bs ys

parts_flat : (h : Order) (bs : List Branch) (ys : List Complex) → AllZip (λ b y. IsAdmittance h b.law y) bs ys → bs ≡ flatten (ground_parts bs ys)
unfolding ground_parts
parts_flat h [] [] z = refl
parts_flat h [] (y ∷ ys) z = absurd z
parts_flat h (b ∷ bs) [] z = absurd z
parts_flat h (b ∷ bs) (y ∷ ys) z = ap (λ (l : List Branch). b ∷ l) (parts_flat h bs ys z.1)

parts_admitted : (network : Network) (h : Order) (bs : List Branch) (ys : List Complex) → AllZip (λ b y. IsAdmittance h b.law y) bs ys
    → AllByRecursion (λ part. (b : Branch) → Contains (branches_of part) b → Carries network b → HasAdmittance h part) (ground_parts bs ys)
unfolding ground_parts
parts_admitted network h [] [] z = tt
parts_admitted network h [] (y ∷ ys) z = absurd z
parts_admitted network h (b ∷ bs) [] z = absurd z
parts_admitted network h (b ∷ bs) (y ∷ ys) z = (λ o k c. alone b y z.0, parts_admitted network h bs ys z.1)

one_pair : (u : Complex) → ((real (times (whole (pos 1)) (whole (pos 1))) ⊗ u) ⊕ nought) ⊕ nought ≈ u
one_pair u = linear R (real (times (whole (pos 1)) (whole (pos 1))) ∷ real (whole (pos 1)) ∷ u ∷ []) (join R (weigh R u (real-times (whole (pos 1)) (whole (pos 1)))) (weigh R (u ⊗ real (whole (pos 1)) ⊕ u) real-unit)) (search reads depth 40 fits 4000) none_left

entry_of : (b : Branch) (y rest : Complex) (bs : List Part) → b.taps ≡ ground_tap ∷ [] → rest ≈ nodal_entry bs 0 0 → y ⊕ rest ≈ nodal_entry (Alone b y ∷ bs) 0 0
entry_of b y rest bs e k =
    subst (λ (taps : List Tap). y ⊕ rest ≈ nodal_entry (Alone (record b { taps = taps }) y ∷ bs) 0 0) (sym e)
    (next (add_same (back (one_pair y)) k) (same _))

parts_entry : (h : Order) (bs : List Branch) (ys : List Complex) → ((b : Branch) → Contains bs b → b.taps ≡ ground_tap ∷ []) → AllZip (λ b y. IsAdmittance h b.law y) bs ys
    → sum_of ys ≈ nodal_entry (ground_parts bs ys) 0 0
unfolding ground_parts
parts_entry h [] [] each z = same _
parts_entry h [] (y ∷ ys) each z = absurd z
parts_entry h (b ∷ bs) [] each z = absurd z
parts_entry h (b ∷ bs) (y ∷ ys) each z =
    entry_of b y (sum_of ys) (ground_parts bs ys) (each b (0, omega arith, refl))
    (parts_entry h bs ys (λ o k. each o (suc k.0, omega (arith, k.1), k.2)) z.1)

-- the nodal equation of one node
pub one_node_system : (network : Network) (h : Order) (ys : List Complex) → IsOneNode network → AllZip (λ b y. IsAdmittance h b.law y) network.branches ys
    → IsNodalSystem network h (ground_parts network.branches ys) (0 ∷ []) ((sum_of ys ∷ []) ∷ [])
one_node_system network h ys o z = record {
  admitted = record { all = parts_flat h network.branches ys z; each = parts_admitted network h network.branches ys z };
  listed = record {
    distinct = (tt, tt);
    live = λ n. (λ v. (0, omega arith, sym (only_node network o n v)), λ k. subst (λ j. Live network j) (sym (bus k.0 n k.1 k.2)) (node_live network o));
  };
  entries = ((parts_entry h network.branches ys o.each z, tt), tt);
}
  where
    bus : (i n : ℕ) → i < 1 → get_or (0 ∷ []) i n ≡ n → n ≡ 0
    bus zero n p q = sym q
    bus (suc i) n p q = absurd (omega arith)

pub one_node_reduced : (network : Network) (h : Order) (ys : List Complex) → IsOneNode network → AllZip (λ b y. IsAdmittance h b.law y) network.branches ys → IsReducedTo network h 0 (sum_of ys)
one_node_reduced network h ys o z = record {
  parts = ground_parts network.branches ys;
  ordering = 0 ∷ [];
  rows = (sum_of ys ∷ []) ∷ [];
  n = 0;
  system = one_node_system network h ys o z;
  last = record { count = refl; last = refl };
  value = complex_complement 0 ((sum_of ys ∷ []) ∷ []) (record { count = refl; widths = (refl, tt) }) tt;
}
