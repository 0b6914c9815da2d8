-- The networks of a drill are within the limits, and each of its buses is live.
use Rattle.std.proofs.Common.{◌≡◌, ℕ, zero, suc, ◌+◌, ◌*◌, ◌-◌, ◌≤◌, ◌<◌, ℤ, pos, negsuc, ◌*ℤ◌, ◌||◌, Bool, true, false, nat_lt, List, [], ◌∷◌, ◌++◌, map, length, refl, sym, subst, arith, if◌then◌else◌, get_or, length-append}
use Rattle.std.proofs.lemmas.Bool.Decides.{nat_tests}
use Rattle.std.proofs.lemmas.List.{length-map}
use Rattle.std.specs.Prelude.{Contains}
use Rattle.std.specs.List.{AllByRecursion}
use Rattle.std.proofs.lemmas.List.Elements.{All-from_recursion}
use Rattle.net_branch.proofs.Wholes.{each_append}
use Rattle.exact_algebra.specs.Ratio.{whole}
use Rattle.std.specs.Prelude.{int_lt}
use Rattle.network_theory.specs.Branch.{Branch, Law, Shunt}
use Rattle.study_model.specs.Voltages.{kv_of}
use Rattle.element_parts.specs.PerUnit.{susceptance_share}
use Rattle.network_theory.specs.Network.{Network}
use Rattle.network_theory.specs.Live.{Live}
use Rattle.network_theory.specs.Live.Live.{grounded, joined}
use Rattle.net_branch.specs.declared.limits.TheConstants.{MAX_NODES, MAX_BRANCHES}
use Rattle.element_parts.specs.Expansion.{with_element, passes_limits, to_ground, between, grounded_at, law_where, series}
use Rattle.line_pi.specs.Lines.{line_expansion, section_series, end_laws, pi_section}
use Rattle.load_filter_model.specs.Sources.{source_expansion, source_series}
use Rattle.load_filter_model.specs.Loads.{load_expansion, cigre_laws, cigre_parallel_reactance}
use Rattle.load_filter_model.specs.Banks.{bank_expansion}
use Rattle.load_filter_model.specs.Filters.{filter_expansion}
use Rattle.sequence_network.specs.Networks.{expansion_of, with_elements, bus_nodes, network_of}
use Rattle.sequence_network.specs.Refusals.{HasLiveNetworks, IsLiveScan}
use Rattle.study_model.specs.Lawful.{IsLawful}
use Rattle.study_model.specs.Elements.{StudyElement, of_source, of_line, of_load, of_bank, of_filter, elements_of}
use Rattle.study_model.specs.declared.words.Sequence.{Sequence}
use Rattle.study_model.specs.declared.words.Sequence.TheVariants.{Positive, Zero}
use Rattle.study_model.specs.declared.records.Study.{Study}
use Rattle.drill_study.specs.Draws.{drawn, after}
use Rattle.drill_study.specs.Drill.{line_of, lines_from, load_of, has_load, loads_from, bank_of, drill_lines, drill_loads, drawn_lines, drawn_all, drill_source, drill_filter, drill_scan, drill_of}
use Rattle.drill_study.proofs.Lawful.{drawn_below, drill_buses_count, drill_lines_count, drill_loads_few, drill_lawful}

less : (m n : ℕ) → nat_lt m n ≡ true → m < n
less m n h = grind (arith, nat_tests)

not_less : (m n : ℕ) → nat_lt m n ≡ false → n ≤ m
not_less m n h = grind (arith, nat_tests)

-- ---- members of lists
member_front : {X : Type 0} (xs ys : List X) (x : X) → Contains xs x → Contains (xs ++ ys) x
member_front [] ys x has = absurd (omega (arith, has.1))
member_front (y ∷ xs) ys x has = go has.0 has.1 has.2 (λ i l e. member_front xs ys x (i, l, e))
  where
    go : (i : ℕ) → i < suc (length xs) → get_or (y ∷ xs) i x ≡ x → ((i : ℕ) → i < length xs → get_or xs i x ≡ x → Contains (xs ++ ys) x) → Contains (y ∷ (xs ++ ys)) x
    go zero l e more = (0, omega arith, e)
    go (suc i) l e more = let m = more i (omega arith) e in (suc m.0, omega (arith, m.1), m.2)

member_back : {X : Type 0} (xs ys : List X) (x : X) → Contains ys x → Contains (xs ++ ys) x
member_back [] ys x has = has
member_back (y ∷ xs) ys x has = let m = member_back xs ys x has in (suc m.0, omega (arith, m.1), m.2)

member_first : {X : Type 0} (x : X) (xs : List X) → Contains (x ∷ xs) x
member_first x xs = (0, omega arith, refl)

-- ---- what an element adds stays
stays : (study : Study) (sequence : Sequence) (n : Network) (owner : ℕ) (es : List StudyElement) (b : Branch) → Contains n.branches b → Contains (with_elements study sequence n owner es).branches b
stays study sequence n owner [] b has = has
stays study sequence n owner (e ∷ es) b has =
    let added = expansion_of study sequence n.nodes e owner in
    stays study sequence (with_element n added) (owner + 1) es b (member_front n.branches added.branches b has)

-- an element with some number, whose inner nodes begin at some number, is in a network
record IsIn (study : Study) (sequence : Sequence) (network : Network) (e : StudyElement) : Type 0 where
  next : ℕ
  owner : ℕ
  has : (b : Branch) → Contains (expansion_of study sequence next e owner).branches b → Contains network.branches b

each_in : (study : Study) (sequence : Sequence) (n : Network) (owner : ℕ) (es : List StudyElement) → AllByRecursion (IsIn study sequence (with_elements study sequence n owner es)) es
each_in study sequence n owner es = go n owner es (with_elements study sequence n owner es) refl
  where
    go : (n : Network) (owner : ℕ) (es : List StudyElement) (whole : Network) → with_elements study sequence n owner es ≡ whole → AllByRecursion (IsIn study sequence whole) es
    go n owner [] whole same = tt
    go n owner (e ∷ es) whole same =
        let added = expansion_of study sequence n.nodes e owner in (
          record {
            next = n.nodes;
            owner = owner;
            has = λ b has. subst (λ w. Contains w.branches b) same (stays study sequence (with_element n added) (owner + 1) es b (member_back n.branches added.branches b has));
          },
          go (with_element n added) (owner + 1) es whole same,
        )

-- ---- how much an element adds
record IsFew (study : Study) (sequence : Sequence) (e : StudyElement) : Type 0 where
  inner : (next owner : ℕ) → (expansion_of study sequence next e owner).inner ≤ 1
  branches : (next owner : ℕ) → length (expansion_of study sequence next e owner).branches ≤ 6

-- a network with few more elements
record HasAtMost (n : Network) (nodes branches : ℕ) : Type 0 where
  few_nodes : n.nodes ≤ nodes
  few_branches : length n.branches ≤ branches

few_more : (study : Study) (sequence : Sequence) (n : Network) (owner : ℕ) (es : List StudyElement) → AllByRecursion (IsFew study sequence) es → HasAtMost (with_elements study sequence n owner es) (n.nodes + length es) (length n.branches + 6 * length es)
few_more study sequence n owner [] few = record { few_nodes = omega arith; few_branches = omega arith }
few_more study sequence n owner (e ∷ es) few =
    let added = expansion_of study sequence n.nodes e owner in
    let more = few_more study sequence (with_element n added) (owner + 1) es few.1 in
    let inner = few.0.inner n.nodes owner in
    let branches = few.0.branches n.nodes owner in
    record { few_nodes = omega (arith, more.few_nodes, inner); few_branches = omega (arith, more.few_branches, branches, length-append n.branches added.branches) }

le_at : {m : ℕ} (k n : ℕ) → m ≡ k → k ≤ n → m ≤ n
le_at {m} k n same below = subst (λ i. i ≤ n) (sym same) below

law_few : (t : Bool) (law : Law) → length (law_where t law) ≤ 1
law_few true law = omega arith
law_few false law = omega arith

where_few : {X : Type 0} (t : Bool) (xs : List X) (k : ℕ) → length xs ≤ k → length (if t then xs else []) ≤ k
where_few true xs k few = few
where_few false xs k few = omega arith

grounded_few : (bus : ℕ) (laws : List Law) (owner k : ℕ) → length laws ≤ k → length (grounded_at bus laws owner).branches ≤ k
grounded_few bus laws owner k few = omega (arith, few, length-map laws (λ law. to_ground bus law owner))

section_few : (law : Law) (end : List Law) (near far owner : ℕ) → length end ≤ 1 → length (pi_section law end near far owner) ≤ 3
section_few law end near far owner few =
    let near_end = map (λ law. to_ground near law owner) end in
    let far_end = map (λ law. to_ground far law owner) end in
    omega (arith, few, length-append near_end far_end, length-map end (λ law. to_ground near law owner), length-map end (λ law. to_ground far law owner))

source_few : (study : Study) (sequence : Sequence) → IsFew study sequence (of_source drill_source)
unfolding source_expansion
source_few study Positive = record { inner = λ next owner. le_at 0 1 refl (omega arith); branches = λ next owner. le_at 1 6 refl (omega arith) }
source_few study Zero = record { inner = λ next owner. le_at 0 1 refl (omega arith); branches = λ next owner. le_at 0 6 refl (omega arith) }

line_few : (study : Study) (sequence : Sequence) (j z : ℕ) → IsFew study sequence (of_line (line_of j z))
unfolding line_expansion
line_few study Positive j z = record {
  inner = λ next owner. le_at 1 1 refl (omega arith);
  branches = λ next owner.
      let e = line_of j z in
      let law = section_series study e e.r e.x in
      let end = end_laws study e e.b in
      let few = law_few (int_lt (pos 0) e.b) (Shunt (susceptance_share e.b study.mva (kv_of study.buses e.from) (2 * e.sections))) in
      omega (
        arith,
        section_few law end e.from next owner few,
        section_few law end next e.to owner few,
        length-append (pi_section law end e.from next owner) (pi_section law end next e.to owner),
      );
}
line_few study Zero j z = record { inner = λ next owner. le_at 0 1 refl (omega arith); branches = λ next owner. le_at 0 6 refl (omega arith) }

cigre_few : (s p q : ℤ) → length (cigre_laws s p q) ≤ 2
cigre_few s p q = let few = law_few (int_lt (pos 74 *ℤ p) (pos 670 *ℤ q)) (series (whole (pos 0)) (cigre_parallel_reactance p q s)) in omega (arith, few)

load_few : (study : Study) (sequence : Sequence) (j z : ℕ) → IsFew study sequence (of_load (load_of j z))
unfolding load_expansion
load_few study Positive j z = record {
  inner = λ next owner. le_at 0 1 refl (omega arith);
  branches = λ next owner.
      let p = pos ((1 + drawn (after 1 z) 4) * 1000000) in
      omega (arith, grounded_few j (cigre_laws study.mva p (pos 1000000)) owner 2 (cigre_few study.mva p (pos 1000000)));
}
load_few study Zero j z = record { inner = λ next owner. le_at 0 1 refl (omega arith); branches = λ next owner. le_at 0 6 refl (omega arith) }

bank_few : (study : Study) (sequence : Sequence) (z : ℕ) → IsFew study sequence (of_bank (bank_of z))
unfolding bank_expansion
bank_few study Positive z = record { inner = λ next owner. le_at 0 1 refl (omega arith); branches = λ next owner. le_at 1 6 refl (omega arith) }
bank_few study Zero z = record { inner = λ next owner. le_at 0 1 refl (omega arith); branches = λ next owner. le_at 0 6 refl (omega arith) }

filter_few : (study : Study) (sequence : Sequence) → IsFew study sequence (of_filter drill_filter)
unfolding filter_expansion
filter_few study Positive = record { inner = λ next owner. le_at 1 1 refl (omega arith); branches = λ next owner. le_at 3 6 refl (omega arith) }
filter_few study Zero = record { inner = λ next owner. le_at 0 1 refl (omega arith); branches = λ next owner. le_at 0 6 refl (omega arith) }

-- ---- all elements
lines_few : (study : Study) (sequence : Sequence) (count j z : ℕ) → AllByRecursion (IsFew study sequence) (map of_line (lines_from count j z))
lines_few study sequence zero j z = tt
lines_few study sequence (suc count) j z = (line_few study sequence j z, lines_few study sequence count (j + 1) (after 4 z))

loads_all_few : (study : Study) (sequence : Sequence) (count j z : ℕ) → AllByRecursion (IsFew study sequence) (map of_load (loads_from count j z))
loads_all_few study sequence zero j z = tt
loads_all_few study sequence (suc count) j z = by (has_load z) (loads_all_few study sequence count (j + 1) (after 2 z)) (loads_all_few study sequence count (j + 1) (after 1 z))
  where
    by : (t : Bool) → AllByRecursion (IsFew study sequence) (map of_load (loads_from count (j + 1) (after 2 z))) → AllByRecursion (IsFew study sequence) (map of_load (loads_from count (j + 1) (after 1 z)))
        → AllByRecursion (IsFew study sequence) (map of_load (if t then load_of j (after 1 z) ∷ loads_from count (j + 1) (after 2 z) else loads_from count (j + 1) (after 1 z)))
    by true with_load without = (load_few study sequence j (after 1 z), with_load)
    by false with_load without = without

drill_lines_few : (study : Study) (sequence : Sequence) (number : ℕ) → AllByRecursion (IsFew study sequence) (map of_line (drill_lines number))
unfolding drill_lines
drill_lines_few study sequence number = lines_few study sequence 59 0 number

drill_loads_all_few : (study : Study) (sequence : Sequence) (number : ℕ) → AllByRecursion (IsFew study sequence) (map of_load (drill_loads number))
unfolding drill_loads
drill_loads_all_few study sequence number = loads_all_few study sequence 59 0 (drawn_lines number)

elements_few : (number : ℕ) (sequence : Sequence) → AllByRecursion (IsFew (drill_of number) sequence) (elements_of (drill_of number))
unfolding drill_of
elements_few number sequence =
    let study = drill_of number in
    let few = IsFew study sequence in (
      source_few study sequence,
      each_append few (map of_line (drill_lines number)) _ (drill_lines_few study sequence number)
          (each_append few (map of_load (drill_loads number)) _ (drill_loads_all_few study sequence number) (bank_few study sequence (drawn_all number), (filter_few study sequence, tt))),
    )

-- the number of elements, whatever the lists are
count_of : (lines loads : List StudyElement) (source bank filter : StudyElement) → length (source ∷ (lines ++ (loads ++ bank ∷ filter ∷ []))) ≡ 3 + length lines + length loads
count_of lines loads source bank filter = omega (arith, length-append lines (loads ++ bank ∷ filter ∷ []), length-append loads (bank ∷ filter ∷ []))

elements_count : (number : ℕ) → length (elements_of (drill_of number)) ≤ 121
unfolding drill_of
elements_count number =
    let count = count_of (map of_line (drill_lines number)) (map of_load (drill_loads number)) (of_source drill_source) (of_bank (bank_of (drawn_all number))) (of_filter drill_filter) in
    omega (arith, count, length-map (drill_lines number) of_line, length-map (drill_loads number) of_load, drill_lines_count number, drill_loads_few number)

not_large : (nodes branches : ℕ) → nodes ≤ MAX_NODES → branches ≤ MAX_BRANCHES → (nat_lt MAX_NODES nodes || nat_lt MAX_BRANCHES branches) ≡ false
not_large nodes branches few fewer = grind (arith, nat_tests)

study_buses : (number : ℕ) → length (drill_of number).buses ≡ 60
unfolding drill_of
study_buses number = drill_buses_count

has_room : (number : ℕ) (sequence : Sequence) → passes_limits (network_of (drill_of number) sequence) ≡ false
unfolding network_of
has_room number sequence =
    let study = drill_of number in
    let most = few_more study sequence (bus_nodes study) 1 (elements_of study) (elements_few number sequence) in
    let count = elements_count number in
    let buses = study_buses number in
    let network = with_elements study sequence (bus_nodes study) 1 (elements_of study) in
    not_large network.nodes (length network.branches) (omega (arith, most.few_nodes, count, buses)) (omega (arith, most.few_branches, count))

-- ---- live buses
-- what holds of all lines holds of one from each bus but the last
line_there : (P : StudyElement → Type 0) (count j z k : ℕ) → k < count → AllByRecursion P (map of_line (lines_from count j z)) → (z' : ℕ) × P (of_line (line_of (j + k) z'))
line_there P zero j z k inside all = absurd (omega (arith, inside))
line_there P (suc count) j z zero inside all = (z, subst (λ i. P (of_line (line_of i z))) (omega arith) all.0)
line_there P (suc count) j z (suc k) inside all =
    let it = line_there P count (j + 1) (after 4 z) k (omega (arith, inside)) all.1 in
    (it.0, subst (λ i. P (of_line (line_of i it.0))) (omega arith) it.1)

all_front : {X : Type 0} (P : X → Type 0) (xs ys : List X) → AllByRecursion P (xs ++ ys) → AllByRecursion P xs
all_front P [] ys all = tt
all_front P (x ∷ xs) ys all = (all.0, all_front P xs ys all.1)

from_first : (P : StudyElement → Type 0) (number j : ℕ) → j < 59 → AllByRecursion P (map of_line (drill_lines number)) → (z : ℕ) × P (of_line (line_of j z))
unfolding drill_lines
from_first P number j inside all =
    let it = line_there P 59 0 number j inside all in
    (it.0, subst (λ i. P (of_line (line_of i it.0))) (omega arith) it.1)

section_has : (law : Law) (end : List Law) (near far owner : ℕ) → Contains (pi_section law end near far owner) (between near far law owner)
section_has law end near far owner = (0, omega arith, refl)

-- a branch between two nodes makes the first live with the second
join_back : (network : Network) (a b : ℕ) (law : Law) (owner : ℕ) → Contains network.branches (between a b law owner) → Live network b → Live network a
join_back network a b law owner has live =
    joined (between a b law owner) (record { node = b; ratio = whole (negsuc 0) }) (record { node = a; ratio = whole (pos 1) }) has (1, omega arith, refl) (0, omega arith, refl) live

module _ (number : ℕ) where
  abbrev study : Study
  study = drill_of number

  abbrev network : Network
  network = network_of study Positive

  all_in : AllByRecursion (IsIn study Positive network) (elements_of study)
  unfolding network_of
  all_in = each_in study Positive (bus_nodes study) 1 (elements_of study)

  source_in : IsIn study Positive network (of_source drill_source)
  unfolding drill_of
  source_in = all_in.0

  lines_in : AllByRecursion (IsIn study Positive network) (map of_line (drill_lines number))
  unfolding drill_of
  lines_in = all_front (IsIn study Positive network) (map of_line (drill_lines number)) _ all_in.1

  -- a line from each bus but the last
  line_in : (j : ℕ) → j < 59 → (z : ℕ) × IsIn study Positive network (of_line (line_of j z))
  line_in j inside = from_first (IsIn study Positive network) number j inside lines_in

  last_live : Live network 59
  unfolding source_expansion
  last_live =
      let law = source_series study drill_source drill_source.r drill_source.x in
      let b = to_ground 59 law source_in.owner in
      grounded b (record { node = 59; ratio = whole (pos 1) }) (source_in.has b (0, omega arith, refl)) refl

  -- with the far end of a line its near end is live
  near_live : (j z : ℕ) → IsIn study Positive network (of_line (line_of j z)) → Live network (line_of j z).to → Live network j
  unfolding line_expansion
  near_live j z here far =
      let e = line_of j z in
      let law = section_series study e e.r e.x in
      let end = end_laws study e e.b in
      let first = pi_section law end j here.next here.owner in
      let second = pi_section law end here.next e.to here.owner in
      let near = between j here.next law here.owner in
      let beyond = between here.next e.to law here.owner in
      let has_near = here.has near (member_front first second near (section_has law end j here.next here.owner)) in
      let has_beyond = here.has beyond (member_back first second beyond (section_has law end here.next e.to here.owner)) in
      join_back network j here.next law here.owner has_near (join_back network here.next e.to law here.owner has_beyond far)

  bus_live : (steps j : ℕ) → 59 ≤ j + steps → j ≤ 59 → Live network j
  bus_live zero j near inside = subst (λ i. Live network i) (omega (arith, near, inside)) last_live
  bus_live (suc steps) j near inside = by (nat_lt j 59) refl (λ i l m. bus_live steps i l m)
    where
      by : (t : Bool) → nat_lt j 59 ≡ t → ((i : ℕ) → 59 ≤ i + steps → i ≤ 59 → Live network i) → Live network j
      by true e more =
          let before : j < 59 = less j 59 e in
          let it = line_in j before in
          let to = drawn_below (after 1 it.0) (59 - j) (omega (arith, before)) in
          near_live j it.0 it.1 (more (line_of j it.0).to (omega (arith, near)) (omega (arith, to, before)))
      by false e more = subst (λ i. Live network i) (omega (arith, inside, not_less j 59 e)) last_live

pub drill_live : (number : ℕ) → HasLiveNetworks (drill_of number)
unfolding drill_of
drill_live number = record {
  room = record { positive = has_room number Positive; zero = has_room number Zero };
  buses = λ n inside. bus_live number 59 n (omega arith) (omega (arith, inside, drill_buses_count));
  scans = All-from_recursion (IsLiveScan (network_of (drill_of number) Zero)) (drill_scan ∷ []) ((λ zero. absurd cc), tt);
}

pub is_lawful : (number : ℕ) (study : Study) → study ≡ drill_of number → IsLawful study
is_lawful number s same = subst IsLawful (sym same) (drill_lawful number)

pub is_live : (number : ℕ) (study : Study) → study ≡ drill_of number → HasLiveNetworks study
is_live number s same = subst HasLiveNetworks (sym same) (drill_live number)
