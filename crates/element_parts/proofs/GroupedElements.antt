-- Groups of three, and elements that have some.
use Rattle.std.proofs.Common.{◌≡◌, ◌≢◌, ℕ, ◌+◌, ◌≤◌, ◌<◌, ◌*◌, ◌^◌, ℤ, unsigned_abs, false, List, [], ◌∷◌, ◌++◌, map, Result, Ok, Err, refl, sym, subst, arith}
use Rattle.std.proofs.lemmas.Int.{ints}
use Rattle.std.specs.Prelude.{IfOk}
use Rattle.std.specs.List.{AllByRecursion}
use Rattle.std.specs.declared.alloc.AllocError.{AllocError}
use Rattle.network_theory.specs.Branch.{Tap, Law as ExactLaw, Series as ExactSeries, Shunt as ExactShunt, Coupled3 as ExactCoupled3, Coupling, Branch as ExactBranch}
use Rattle.network_theory.specs.Network.{IsGrouped, done, alone, group}
use Rattle.network_theory.proofs.Couplings.{coupling_same}
use Rattle.net_branch.specs.declared.network.Law.{Law}
use Rattle.net_branch.specs.declared.network.Law.TheVariants.{Series, Shunt, Coupled3}
use Rattle.net_branch.specs.declared.network.Branch.{Branch}
use Rattle.net_branch.specs.declared.network.Network.{Network}
use Rattle.net_branch.specs.Exact.{exact_law, exact_branch, exact_network}
use Rattle.net_branch.specs.Refusal.{is_zero_law, IsElement}
use Rattle.net_branch.proofs.Wholes.{each_append, each_weaker, each_map, at_nodes_exact, grouped_append}
use Rattle.element_parts.specs.declared.element.Parts.{Parts}
use Rattle.element_parts.specs.Expansion.{Expansion}
use Rattle.element_parts.specs.Parts.{exact_parts}
use Rattle.element_parts.specs.Phases.{in_phases, coupling_share}
use Rattle.element_parts.specs.PerUnit.{self_ohms, mutual_ohms}
use Rattle.element_parts.specs.declared.phases.Ohms.{Ohms}
use Rattle.study_model.specs.Range.{IsIn}
use Rattle.study_model.specs.declared.range.TheConstants.Range.{ORDINARY, BUS_KV, BASE_MVA, SKIN_K, SKIN_M}
use Rattle.element_parts.proofs.SmallValues.{small_share, small_written}
use Rattle.element_parts.specs.Plain.{IsPlainLaw}
use Rattle.element_parts.specs.Small.{IsSmall, IsSmallLaw}
use Rattle.element_parts.specs.Grouped.{IsNonZeroLaw, IsGroupedElement}
use Rattle.element_parts.proofs.PlainElements.{each_built, not_zero}
use Rattle.element_parts.proofs.Sound.{IsSoundBranch, AreSound, is_uncoupled}

-- ---- an element that a network takes
non_zero_law : (l : Law) → IsNonZeroLaw (exact_law l) → is_zero_law l ≡ false
non_zero_law (Series r k m x xc) h = not_zero (Series r k m x xc) h
non_zero_law (Shunt b) h = not_zero (Shunt b) h
non_zero_law (Coupled3 place self_r self_x mutual_r x_ab x_bc x_ca k m) h = refl

pub grouped_element : (network : Network) (inner : ℕ) (branches : List Branch) → IsGroupedElement (exact_network network) (record { inner = inner; branches = map exact_branch branches }) → IsElement network inner branches
grouped_element network inner branches h = record {
  taps = at_nodes_exact (network.nodes + inner) branches h.taps;
  groups = h.groups;
  apart = each_built (λ b. b.group ≢ 0 → AllByRecursion (λ o. o.group ≢ b.group) (map exact_branch network.branches)) (λ b. b.group ≢ 0 → AllByRecursion (λ o. o.group ≢ b.group) network.branches)
      (λ b k n. each_built (λ o. o.group ≢ b.group) (λ o. o.group ≢ b.group) (λ o l. l) network.branches (k n)) branches h.apart;
  laws = each_built (λ b. IsNonZeroLaw b.law) (λ b. is_zero_law b.law ≡ false) (λ b k. non_zero_law b.law k) branches h.laws;
}

-- ---- branches of an element of a lawful study, whose groups have numbers from one to below another
pub record IsGroupSound (nodes number low high : ℕ) (b : ExactBranch) : Type 0 where
  pub taps : AllByRecursion (λ t. t.node < nodes) b.taps
  pub owner : b.owner ≡ number
  pub law : IsNonZeroLaw b.law
  pub small : IsSmallLaw b.law
  pub first : b.group ≢ 0 → low ≤ b.group
  pub last : b.group < high

pub record AreGroupSound (nodes number low high : ℕ) (bs : List ExactBranch) : Type 0 where
  pub each : AllByRecursion (IsGroupSound nodes number low high) bs
  pub groups : IsGrouped bs

-- what is built of such branches is an element that a network takes, where the numbers of its groups are below theirs
pub grouped_parts : (parts : Result Parts AllocError) (network : Network) (number first last : ℕ) (e : Expansion) → IfOk parts (λ p. exact_parts p ≡ e)
    → AreGroupSound (network.nodes + e.inner) number first last e.branches → AllByRecursion (λ b. b.group < first) network.branches
    → IfOk parts (λ p. IsGroupedElement (exact_network network) (exact_parts p))
grouped_parts (Ok p) network number first last e h s below = subst (IsGroupedElement (exact_network network)) (sym h) (record {
  taps = each_weaker (IsGroupSound (network.nodes + e.inner) number first last) _ (λ b k. k.taps) e.branches s.each;
  laws = each_weaker (IsGroupSound (network.nodes + e.inner) number first last) _ (λ b k. k.law) e.branches s.each;
  groups = s.groups;
  apart = each_weaker (IsGroupSound (network.nodes + e.inner) number first last) _
      (λ b k n. each_map (λ o. o.group ≢ b.group) exact_branch network.branches (each_weaker (λ o. o.group < first) (λ o. o.group ≢ b.group) (λ o l q. omega (arith, l, q, k.first n)) network.branches below)) e.branches s.each;
})
grouped_parts (Err f) network number first last e h s below = tt

-- ---- branches that stand alone
non_zero : (l : ExactLaw) → IsPlainLaw l → IsNonZeroLaw l
non_zero (ExactSeries r k m x xc) h = h
non_zero (ExactShunt b) h = h
non_zero (ExactCoupled3 place c) h = tt

one_alone : (nodes number first last : ℕ) → 0 < last → (b : ExactBranch) → IsSoundBranch nodes number b → IsGroupSound nodes number first last b
one_alone nodes number first last l b h = record {
  taps = h.taps;
  owner = h.owner;
  law = non_zero b.law h.law.plain;
  small = h.law.small;
  first = λ n. absurd (n h.group);
  last = omega (arith, l, h.group);
}

all_alone : (nodes number : ℕ) (bs : List ExactBranch) → AreSound nodes number bs → IsGrouped bs
all_alone nodes number [] h = done
all_alone nodes number (b ∷ bs) h = alone b bs (is_uncoupled nodes number b h.0) (all_alone nodes number bs h.1)

pub alone_sound : (nodes number first last : ℕ) (bs : List ExactBranch) → 0 < last → AreSound nodes number bs → AreGroupSound nodes number first last bs
alone_sound nodes number first last bs l h = record {
  each = each_weaker (IsSoundBranch nodes number) (IsGroupSound nodes number first last) (one_alone nodes number first last l) bs h;
  groups = all_alone nodes number bs h;
}

-- ---- one list after another, whose groups have the numbers after
from_less : (nodes number first less last more : ℕ) → less ≤ first → last ≤ more → (b : ExactBranch) → IsGroupSound nodes number first last b → IsGroupSound nodes number less more b
from_less nodes number first less last more l m b h = record {
  taps = h.taps;
  owner = h.owner;
  law = h.law;
  small = h.small;
  first = λ n. omega (arith, l, h.first n);
  last = omega (arith, m, h.last);
}

pub sound_within : (nodes number first less last more : ℕ) (bs : List ExactBranch) → less ≤ first → last ≤ more → AreGroupSound nodes number first last bs → AreGroupSound nodes number less more bs
sound_within nodes number first less last more bs l m h = record {
  each = each_weaker (IsGroupSound nodes number first last) (IsGroupSound nodes number less more) (from_less nodes number first less last more l m) bs h.each;
  groups = h.groups;
}

pub sound_append : (nodes number first middle last : ℕ) (xs ys : List ExactBranch) → first ≤ middle → middle ≤ last → AreGroupSound nodes number first middle xs → AreGroupSound nodes number middle last ys
    → AreGroupSound nodes number first last (xs ++ ys)
sound_append nodes number first middle last xs ys l m h k = record {
  each = each_append (IsGroupSound nodes number first last) xs ys
      (each_weaker (IsGroupSound nodes number first middle) (IsGroupSound nodes number first last) (from_less nodes number first first middle last (omega arith) m) xs h.each)
      (each_weaker (IsGroupSound nodes number middle last) (IsGroupSound nodes number first last) (from_less nodes number middle first last last l (omega arith)) ys k.each);
  groups = grouped_append xs ys h.groups k.groups
      (each_weaker (IsGroupSound nodes number middle last) (λ y. y.group ≢ 0 → AllByRecursion (λ o. o.group ≢ y.group) xs)
      (λ y s n. each_weaker (IsGroupSound nodes number first middle) (λ o. o.group ≢ y.group) (λ o t q. omega (arith, t.last, s.first n, q)) xs h.each) ys k.each);
}

-- ---- a group of three
pub record IsSmallCoupling (c : Coupling) : Type 0 where
  pub self_r : IsSmall c.self_r
  pub self_x : IsSmall c.self_x
  pub mutual_r : IsSmall c.mutual_r
  pub x_ab : IsSmall c.x_ab
  pub x_bc : IsSmall c.x_bc
  pub x_ca : IsSmall c.x_ca
  pub k : IsSmall c.k
  pub m : IsSmall c.m

abbrev in_place : (ℕ → List Tap) → Coupling → ℕ → ℕ → ℕ → ExactBranch
in_place taps values number owner p = record { taps = taps p; law = ExactCoupled3 p values; group = number; owner = owner }

place_sound : (nodes number owner : ℕ) (taps : ℕ → List Tap) (values : Coupling) (p : ℕ) → AllByRecursion (λ t. t.node < nodes) (taps p) → IsSmallCoupling values
    → IsGroupSound nodes owner number (number + 1) (in_place taps values number owner p)
place_sound nodes number owner taps values p h s = record {
  taps = h;
  owner = refl;
  law = tt;
  small = (s.self_r, s.self_x, s.mutual_r, s.x_ab, s.x_bc, s.x_ca, s.k, s.m);
  first = λ n. omega arith;
  last = omega arith;
}

three_grouped : (number owner : ℕ) (taps : ℕ → List Tap) (values : Coupling) → number ≢ 0 → IsGrouped (in_phases (λ p. in_place taps values number owner p ∷ []))
three_grouped number owner taps values n = group _ _ _ [] (record {
  first = record { values = values; law = refl };
  second = record { values = values; law = refl };
  third = record { values = values; law = refl };
  equal_second = coupling_same values;
  equal_third = coupling_same values;
  number = n;
  same_second = refl;
  same_third = refl;
  owner_second = refl;
  owner_third = refl;
}) tt done

pub group_sound : (nodes number owner : ℕ) (taps : ℕ → List Tap) (values : Coupling) → number ≢ 0 → ((p : ℕ) → p ≤ 2 → AllByRecursion (λ t. t.node < nodes) (taps p)) → IsSmallCoupling values
    → AreGroupSound nodes owner number (number + 1) (in_phases (λ p. in_place taps values number owner p ∷ []))
group_sound nodes number owner taps values n h s = record {
  each = (
    place_sound nodes number owner taps values 0 (h 0 (omega arith)) s,
    (place_sound nodes number owner taps values 1 (h 1 (omega arith)) s, (place_sound nodes number owner taps values 2 (h 2 (omega arith)) s, tt)),
  );
  groups = three_grouped number owner taps values n;
}

-- the ohms and skin coefficients of an element of a lawful study, and its bases
pub record AreCoupledOhms (ohms : Ohms) (k m s v : ℤ) : Type 0 where
  pub r : IsIn ORDINARY ohms.r
  pub x : IsIn ORDINARY ohms.x
  pub r0 : IsIn ORDINARY ohms.r0
  pub x0 : IsIn ORDINARY ohms.x0
  pub skin_k : IsIn SKIN_K k
  pub skin_m : IsIn SKIN_M m
  pub base : IsIn BASE_MVA s
  pub kv : IsIn BUS_KV v

self_size : (z z0 : ℤ) → IsIn ORDINARY z → IsIn ORDINARY z0 → unsigned_abs (self_ohms z z0) ≤ 10 ^ 13
self_size z z0 h k = omega (arith, ints, h.0, h.1, k.0, k.1)

mutual_size : (z z0 : ℤ) → IsIn ORDINARY z → IsIn ORDINARY z0 → unsigned_abs (mutual_ohms z z0) ≤ 10 ^ 13
mutual_size z z0 h k = omega (arith, ints, h.0, h.1, k.0, k.1)

pub coupling_small : (ohms : Ohms) (k m s v : ℤ) (n : ℕ) → AreCoupledOhms ohms k m s v → n ≤ 64 → IsSmallCoupling (coupling_share ohms k m s v n)
coupling_small ohms k m s v n h l =
    let parts : 3 * n ≤ 384 = omega (arith, l) in
    let x = small_share (mutual_ohms ohms.x ohms.x0) s v (3 * n) (mutual_size ohms.x ohms.x0 h.x h.x0) h.base h.kv parts in
    record {
      self_r = small_share (self_ohms ohms.r ohms.r0) s v (3 * n) (self_size ohms.r ohms.r0 h.r h.r0) h.base h.kv parts;
      self_x = small_share (self_ohms ohms.x ohms.x0) s v (3 * n) (self_size ohms.x ohms.x0 h.x h.x0) h.base h.kv parts;
      mutual_r = small_share (mutual_ohms ohms.r ohms.r0) s v (3 * n) (mutual_size ohms.r ohms.r0 h.r h.r0) h.base h.kv parts;
      x_ab = x;
      x_bc = x;
      x_ca = x;
      k = small_written k (omega (arith, ints, h.skin_k.0, h.skin_k.1));
      m = small_written m (omega (arith, ints, h.skin_m.0, h.skin_m.1));
    }
