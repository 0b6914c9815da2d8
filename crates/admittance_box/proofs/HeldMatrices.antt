-- The matrix of a box holds the exact nodal matrix of each network between the two.
use Rattle.std.proofs.Common.{◌≡◌, ◌≢◌, ◌∙◌, ℕ, zero, suc, ◌<◌, get_or, arith, Bool, true, false, List, [], ◌∷◌, length, map, refl, sym, subst, ap, Option, Result, Ok}
use Rattle.std.specs.Prelude.{Some, None, Contains, if◌then◌else◌}
use Rattle.std.specs.List.{AllZip, AllByRecursion}
use Rattle.std.specs.Option.{option_map}
use Rattle.exact_algebra.specs.Complex.{Complex, complex_numbers}
use Rattle.exact_algebra.proofs.Complexes.{complex_field}
use Rattle.exact_algebra.proofs.Reader.{reads, ring, none_left}
use Rattle.complex_interval.specs.Ends.{Ends, Encloses, range_ends}
use Rattle.complex_interval.specs.Rectangles.{Rectangle, EnclosesComplex}
use Rattle.complex_interval.proofs.Ranges.{range_encloses}
use Rattle.network_theory.specs.Order.{Order, fraction}
use Rattle.network_theory.specs.Branch.{Law, Series, Shunt, Coupled3, Branch}
use Rattle.network_theory.specs.Network.{Network, IsUncoupled, HasPlace, IsGroup, IsGrouped, done, alone as uncoupled_alone, group}
use Rattle.network_theory.specs.Between.{LawUpTo, BranchUpTo}
use Rattle.network_theory.specs.Live.{HasLiveNode}
use Rattle.network_theory.specs.Impedance.{shunt_admittance}
use Rattle.network_theory.specs.Admittance.{Part, Alone, Group, IsAdmittance, alone, group as with_group, IsSplit, end, one, three, EachLivePart}
use Rattle.network_theory.specs.Nodal.{ListsLive, pair_entry, part_entry, nodal_entry}
use Rattle.network_theory.proofs.Numbers.{R}
use Rattle.network_theory.proofs.Bridge.{contains_among}
use Rattle.network_theory.proofs.Whole.{split_admittances}
use Rattle.plain_elimination.specs.Matrix.{nought_rectangle}
use Rattle.plain_elimination.specs.Elimination.{HoldsRows}
use Rattle.admittance_box.specs.Addends.{LawEnds, OfSeries, OfShunt, PlacedTap, TapPair, Addend, Dead, law_between, taps_between, tap_pairs, has_place, joined, addend_between, group_between, place_in_group, first_addend, addends_between}
use Rattle.admittance_box.specs.Admittance.{SeriesEnds}
use Rattle.admittance_box.specs.BoxMatrix.{law_rectangle, with_pairs, with_addend, with_addends, or_branch, nought_rows, box_matrix}
use Rattle.admittance_box.specs.HeldMatrix.{BoxMatrixHolds}
use Rattle.admittance_box.specs.Orders.{order_ends}
use Rattle.admittance_box.specs.Series.{series_between}
use Rattle.admittance_box.specs.Steps.{◌>>=◌}
use Rattle.admittance_box.proofs.Between.{series_held}
use Rattle.admittance_box.proofs.HeldEntries.{entries_same}
use Rattle.admittance_box.proofs.HeldGroups.{group_adds}
use Rattle.admittance_box.proofs.HeldPairs.{Held, held_along, HoldsTap, taps_hold, pairs_hold, pairs-nought, plus-none}
use Rattle.admittance_box.proofs.Laws.{nought_held, series_encloses, shunt_encloses}
use Rattle.admittance_box.proofs.LivePairs.{live_up}
use Rattle.admittance_box.proofs.LivePlaces.{has_place-tap}
use Rattle.admittance_box.proofs.NodeOrderings.{is_last, lists_live, order_along}
use Rattle.admittance_box.proofs.Ranges.{order_encloses}
use Rattle.admittance_box.proofs.Steps.{bind-some}
open complex_numbers use {◌≈◌, nought, ◌⊕◌}
open complex_field use {same, back, next}

-- ---- one law
-- a law between two, whose intervals have an admittance with a value, has one, which is held
pub law_held : (s : ℕ) (ordering : Ends) (h : Order) → Encloses s ordering (fraction h) → (l u v : Law) (ends : LawEnds) (a : Rectangle) → LawUpTo l v → LawUpTo v u → law_between s l u ≡ Some ends → law_rectangle s ordering ends ≡ Some a
    → (y : Complex) × IsAdmittance h v y × EnclosesComplex s a y
law_held s ordering h ho (Series r k m x xc) (Series r' k' m' x' xc') (Series vr vk vm vx vc) ends a p q e g =
    let (ps, e1, e2) = map-some (series_between s r k m x xc r' k' m' x' xc') e in
    let held = series_held s r k m x xc r' k' m' x' xc' ps e1 vr vk vm vx vc p.0 q.0 p.1 q.1 p.2 q.2 p.3 q.3 p.4 q.4 in
    series_encloses s ps ordering a h vr vk vm vx vc ho held (subst (λ l. law_rectangle s ordering l ≡ Some a) e2 g)
  where
    map-some : (o : Option SeriesEnds) → option_map OfSeries o ≡ Some ends → (t : SeriesEnds) × (o ≡ Some t) × (ends ≡ OfSeries t)
    map-some (Some t) f = (t, refl, cc)
    map-some None f = absurd cc
law_held s ordering h ho (Series r k m x xc) (Shunt c) (Series vr vk vm vx vc) ends a p q e g = absurd q
law_held s ordering h ho (Series r k m x xc) (Coupled3 place values) (Series vr vk vm vx vc) ends a p q e g = absurd q
law_held s ordering h ho (Series r k m x xc) u (Shunt vb) ends a p q e g = absurd p
law_held s ordering h ho (Series r k m x xc) u (Coupled3 place values) ends a p q e g = absurd p
law_held s ordering h ho (Shunt b) (Shunt c) (Shunt vb) ends a p q e g =
    let (t, e1, e2) = map-some (range_ends s b c) e in
    (shunt_admittance vb h, same _, shunt_encloses s t ordering a h vb ho (range_encloses s b c vb p q t e1) (subst (λ l. law_rectangle s ordering l ≡ Some a) e2 g))
  where
    map-some : (o : Option Ends) → option_map OfShunt o ≡ Some ends → (t : Ends) × (o ≡ Some t) × (ends ≡ OfShunt t)
    map-some (Some t) f = (t, refl, cc)
    map-some None f = absurd cc
law_held s ordering h ho (Shunt b) (Series r' k' m' x' xc') (Shunt vb) ends a p q e g = absurd q
law_held s ordering h ho (Shunt b) (Coupled3 place values) (Shunt vb) ends a p q e g = absurd q
law_held s ordering h ho (Shunt b) u (Series vr vk vm vx vc) ends a p q e g = absurd p
law_held s ordering h ho (Shunt b) u (Coupled3 place values) ends a p q e g = absurd p
law_held s ordering h ho (Coupled3 place values) u v ends a p q e g = absurd (none u e)
  where
    none : (u : Law) → law_between s (Coupled3 place values) u ≡ Some ends → ⊥
    none (Series r' k' m' x' xc') f = cc
    none (Shunt c) f = cc
    none (Coupled3 place' values') f = cc

-- ---- branches
-- an uncoupled branch's partner is uncoupled
pub uncoupled_up : (a b : Branch) → BranchUpTo a b → IsUncoupled a → IsUncoupled b
uncoupled_up a b p u = go a.law b.law p.law u
  where
    go : (l v : Law) → LawUpTo l v → elim l as (λ z. Type 0) [ Series r k m x xc ↦ a.group ≡ 0 | Shunt y ↦ a.group ≡ 0 | Coupled3 place c ↦ ⊥ ]
        → elim v as (λ z. Type 0) [ Series r k m x xc ↦ b.group ≡ 0 | Shunt y ↦ b.group ≡ 0 | Coupled3 place c ↦ ⊥ ]
    go (Series r k m x xc) (Series r' k' m' x' xc') q h = sym p.group ∙ h
    go (Series r k m x xc) (Shunt c) q h = absurd q
    go (Series r k m x xc) (Coupled3 place c) q h = absurd q
    go (Shunt c) (Shunt c') q h = sym p.group ∙ h
    go (Shunt c) (Series r' k' m' x' xc') q h = absurd q
    go (Shunt c) (Coupled3 place c') q h = absurd q
    go (Coupled3 place c) v q h = absurd h

-- the places of the branches of a network between are those of the one below it
pub place_alone : (l b : Branch) → BranchUpTo l b → IsUncoupled b → place_in_group l.law ≡ None
place_alone l b p u = go l.law b.law p.law u
  where
    go : (x y : Law) → LawUpTo x y → elim y as (λ z. Type 0) [ Series r k m x xc ↦ b.group ≡ 0 | Shunt y ↦ b.group ≡ 0 | Coupled3 place c ↦ ⊥ ] → place_in_group x ≡ None
    go (Series r k m x xc) y q h = refl
    go (Shunt c) y q h = refl
    go (Coupled3 place c) (Series r k m x xc) q h = absurd q
    go (Coupled3 place c) (Shunt y) q h = absurd q
    go (Coupled3 place c) (Coupled3 place' c') q h = absurd h

pub place_of_group : (l b : Branch) (place : ℕ) → BranchUpTo l b → HasPlace b place → place_in_group l.law ≡ Some place
place_of_group l b place p has = go l.law (subst (LawUpTo l.law) has.law p.law)
  where
    go : (x : Law) → LawUpTo x (Coupled3 place has.values) → place_in_group x ≡ Some place
    go (Series r k m x xc) q = absurd q
    go (Shunt c) q = absurd q
    go (Coupled3 place' c') q = ap Some q.0

regroup : (a b c : Complex) → (a ⊕ b) ⊕ c ≈ a ⊕ (b ⊕ c)
regroup a b c = ring R (a ∷ b ∷ c ∷ []) (search reads depth 40 fits 4000) none_left

-- ---- one branch, and all
module _ (s : ℕ) (ordering : List ℕ) (ends : Ends) (h : Order) (ho : Encloses s ends (fraction h)) (network : Network) (listed : ListsLive network ordering) where
  -- what a branch adds is held
  record HeldBranch (f : ℕ → ℕ → Complex) (b : Branch) (after : List (List Rectangle)) : Type 0 where
    y : Complex
    admitted : HasLiveNode network b → IsAdmittance h b.law y
    held : Held s ordering (λ n k. f n k ⊕ pair_entry b.taps b.taps y n k) after

  joined_held : (a c b : Branch) → BranchUpTo a b → BranchUpTo b c → (law : Option LawEnds) → law_between s a.law c.law ≡ law → (taps : Option (List PlacedTap)) → taps_between s ordering a.taps c.taps ≡ taps
      → (rows after : List (List Rectangle)) (f : ℕ → ℕ → Complex) → with_addend s ends (joined law (taps >>= (λ ts. tap_pairs s ts ts))) rows ≡ Some after → Held s ordering f rows → HeldBranch f b after
  joined_held a c b p q None e taps i rows after f g held = absurd cc
  joined_held a c b p q (Some law) e None i rows after f g held = absurd cc
  joined_held a c b p q (Some law) e (Some taps) i rows after f g held = go (tap_pairs s taps taps) refl g
    where
      at_taps : AllZip (HoldsTap s ordering) taps b.taps
      at_taps = taps_hold s ordering a.taps c.taps b.taps taps p.taps q.taps i

      go : (pairs : Option (List TapPair)) → tap_pairs s taps taps ≡ pairs → with_addend s ends (joined (Some law) pairs) rows ≡ Some after → HeldBranch f b after
      go None k m = absurd cc
      go (Some pairs) k m =
          let (admittance, e1, e2) = bind-some (law_rectangle s ends law) (λ y. with_pairs s y pairs rows) after m in
          let (y, is, has) = law_held s ends h ho a.law c.law b.law law admittance p.law q.law e e1 in
          record {
            y = y;
            admitted = λ l. is;
            held = pairs_hold s ordering listed.distinct admittance y has taps b.taps at_taps taps b.taps at_taps pairs k rows after f e2 held;
          }

  branch_held : (a c b : Branch) → BranchUpTo a b → BranchUpTo b c → (rows after : List (List Rectangle)) (f : ℕ → ℕ → Complex) → with_addend s ends (addend_between s ordering a c) rows ≡ Some after → Held s ordering f rows → HeldBranch f b after
  branch_held a c b p q rows after f g held = go (has_place ordering a.taps) refl g
    where
      go : (t : Bool) → has_place ordering a.taps ≡ t → with_addend s ends (if t then joined (law_between s a.law c.law) (taps_between s ordering a.taps c.taps >>= (λ ts. tap_pairs s ts ts)) else Dead) rows ≡ Some after → HeldBranch f b after
      go true e g = joined_held a c b p q (law_between s a.law c.law) refl (taps_between s ordering a.taps c.taps) refl rows after f g held
      go false e g = record {
        y = nought;
        admitted = λ l. absurd (let has = has_place-tap ordering a.taps b.taps p.taps l.tap l.has (contains_among l.tap.node ordering ((listed.live l.tap.node).0 l.live)) in cc);
        held = let is : rows ≡ after = cc in subst (Held s ordering (λ n k. f n k ⊕ pair_entry b.taps b.taps nought n k)) is
            (held_along s ordering f (λ n k. f n k ⊕ pair_entry b.taps b.taps nought n k) rows (λ n k. plus-none (f n k) (pair_entry b.taps b.taps nought n k) (pairs-nought b.taps b.taps nought (same _) n k)) held);
      }

  -- exact admittances of branches, whose sums with f are held
  pub record HeldSum (bs : List Branch) (f : ℕ → ℕ → Complex) (matrix : List (List Rectangle)) : Type 0 where
    pub parts : List Part
    pub split : IsSplit bs parts
    pub live : EachLivePart network h parts
    pub held : Held s ordering (λ n k. f n k ⊕ nodal_entry parts n k) matrix

  only_one : (b o : Branch) → Contains (b ∷ []) o → b ≡ o
  only_one b o k = at k.0 k.1 k.2
    where
      at : (j : ℕ) → j < 1 → get_or (b ∷ []) j o ≡ o → b ≡ o
      at zero l e = e
      at (suc j) l e = absurd (omega arith)

  -- one branch and those after it
  one_more : (l c b : Branch) (bs : List Branch) → BranchUpTo l b → BranchUpTo b c → IsUncoupled b → (place : Option ℕ) → place ≡ None → (further : List (List Rectangle) → Result (List (List Rectangle)) ℕ) (i : ℕ) (ls hs : List Branch)
      → (rows matrix : List (List Rectangle)) (f : ℕ → ℕ → Complex) → or_branch i (with_addend s ends (first_addend s ordering place l ls c hs) rows) further ≡ Ok matrix → Held s ordering f rows
      → ((mid : List (List Rectangle)) (g : ℕ → ℕ → Complex) → further mid ≡ Ok matrix → Held s ordering g mid → HeldSum bs g matrix) → HeldSum (b ∷ bs) f matrix
  one_more l c b bs p q u (Some j) none further i ls hs rows matrix f e held more = absurd cc
  one_more l c b bs p q u None none further i ls hs rows matrix f e held more = go (with_addend s ends (addend_between s ordering l c) rows) refl e
    where
      go : (o : Option (List (List Rectangle))) → with_addend s ends (addend_between s ordering l c) rows ≡ o → or_branch i o further ≡ Ok matrix → HeldSum (b ∷ bs) f matrix
      go None k m = absurd cc
      go (Some mid) k m =
          let here = branch_held l c b p q rows mid f k held in
          let rest = more mid (λ n k. f n k ⊕ pair_entry b.taps b.taps here.y n k) m here.held in
          record {
            parts = Alone b here.y ∷ rest.parts;
            split = one b here.y bs rest.parts u rest.split;
            live = (λ o k v. alone b here.y (here.admitted (subst (HasLiveNode network) (sym (only_one b o k)) v)), rest.live);
            held = held_along s ordering (λ n k. (f n k ⊕ pair_entry b.taps b.taps here.y n k) ⊕ nodal_entry rest.parts n k) (λ n k. f n k ⊕ nodal_entry (Alone b here.y ∷ rest.parts) n k) matrix
                (λ n k. regroup (f n k) (pair_entry b.taps b.taps here.y n k) (nodal_entry rest.parts n k)) rest.held;
          }

  -- the first branch of a group adds for all three
  as_group : (la lb lc ua ub uc : Branch) (i : ℕ) (ls hs : List Branch) (rows matrix : List (List Rectangle)) (x y z : Option ℕ) → x ≡ Some 0 → y ≡ Some 1 → z ≡ Some 2
      → with_addends s ends i (first_addend s ordering x la (lb ∷ lc ∷ ls) ua (ub ∷ uc ∷ hs) ∷ first_addend s ordering y lb (lc ∷ ls) ub (uc ∷ hs) ∷ first_addend s ordering z lc ls uc hs ∷ addends_between s ordering ls hs) rows ≡ Ok matrix
      → or_branch i (with_addend s ends (group_between s ordering la lb lc ua ub uc) rows) (with_addends s ends (suc (suc (suc i))) (addends_between s ordering ls hs)) ≡ Ok matrix
  as_group la lb lc ua ub uc i ls hs rows matrix x y z ex ey ez m =
      let tail : List Addend = addends_between s ordering ls hs in
      let third = λ (o : Option ℕ). first_addend s ordering o lc ls uc hs in
      let second = λ (o : Option ℕ). first_addend s ordering o lb (lc ∷ ls) ub (uc ∷ hs) in
      let first = λ (o : Option ℕ). first_addend s ordering o la (lb ∷ lc ∷ ls) ua (ub ∷ uc ∷ hs) in
      subst (λ o. with_addends s ends i (first (Some 0) ∷ second (Some 1) ∷ third o ∷ tail) rows ≡ Ok matrix) ez
      (subst (λ o. with_addends s ends i (first (Some 0) ∷ second o ∷ third z ∷ tail) rows ≡ Ok matrix) ey
      (subst (λ o. with_addends s ends i (first o ∷ second y ∷ third z ∷ tail) rows ≡ Ok matrix) ex m))

  -- one group and the branches after it
  group_more : (la lb lc ua ub uc a b c : Branch) (bs : List Branch) → BranchUpTo la a → BranchUpTo lb b → BranchUpTo lc c → BranchUpTo a ua → BranchUpTo b ub → BranchUpTo c uc
      → IsGroup a b c → AllByRecursion (λ o. o.group ≢ a.group) bs → (further : List (List Rectangle) → Result (List (List Rectangle)) ℕ) (i : ℕ) (rows matrix : List (List Rectangle)) (f : ℕ → ℕ → Complex)
      → or_branch i (with_addend s ends (group_between s ordering la lb lc ua ub uc) rows) further ≡ Ok matrix → Held s ordering f rows
      → ((mid : List (List Rectangle)) (g : ℕ → ℕ → Complex) → further mid ≡ Ok matrix → Held s ordering g mid → HeldSum bs g matrix) → HeldSum (a ∷ b ∷ c ∷ bs) f matrix
  group_more la lb lc ua ub uc a b c bs pa pb pc qa qb qc g apart further i rows matrix f e held more = go (with_addend s ends (group_between s ordering la lb lc ua ub uc) rows) refl e
    where
      go : (o : Option (List (List Rectangle))) → with_addend s ends (group_between s ordering la lb lc ua ub uc) rows ≡ o → or_branch i o further ≡ Ok matrix → HeldSum (a ∷ b ∷ c ∷ bs) f matrix
      go None k m = absurd cc
      go (Some mid) k m =
          let here = group_adds s ordering ends h ho network listed la lb lc ua ub uc a b c pa pb pc qa qb qc g rows mid f k held in
          let rest = more mid (λ n k. f n k ⊕ part_entry (Group a b c here.Y) n k) m here.held in
          record {
            parts = Group a b c here.Y ∷ rest.parts;
            split = three a b c here.Y bs rest.parts g apart rest.split;
            live = (λ o k v. with_group a b c here.Y g (here.admitted o k v), rest.live);
            held = held_along s ordering (λ n k. (f n k ⊕ part_entry (Group a b c here.Y) n k) ⊕ nodal_entry rest.parts n k) (λ n k. f n k ⊕ nodal_entry (Group a b c here.Y ∷ rest.parts) n k) matrix
                (λ n k. regroup (f n k) (part_entry (Group a b c here.Y) n k) (nodal_entry rest.parts n k)) rest.held;
          }

  pub addends_held : (ls hs bs : List Branch) → AllZip BranchUpTo ls bs → AllZip BranchUpTo bs hs → IsGrouped bs → (i : ℕ) (rows matrix : List (List Rectangle)) (f : ℕ → ℕ → Complex)
      → with_addends s ends i (addends_between s ordering ls hs) rows ≡ Ok matrix → Held s ordering f rows → HeldSum bs f matrix
  addends_held [] hs L p q done i rows matrix f e held =
      let is : rows ≡ matrix = cc in
      record { parts = []; split = end; live = tt; held = subst (Held s ordering (λ n k. f n k ⊕ nought)) is (held_along s ordering f (λ n k. f n k ⊕ nought) rows (λ n k. plus-none (f n k) nought (same _)) held) }
  addends_held (l ∷ ls) hs L p q done i rows matrix f e held = absurd p
  addends_held [] hs L p q (uncoupled_alone b bs u more) i rows matrix f e held = absurd p
  addends_held (l ∷ ls) [] L p q (uncoupled_alone b bs u more) i rows matrix f e held = absurd q
  addends_held (l ∷ ls) (c ∷ hs) L p q (uncoupled_alone b bs u more) i rows matrix f e held =
      one_more l c b bs p.0 q.0 u (place_in_group l.law) (place_alone l b p.0 u) (with_addends s ends (suc i) (addends_between s ordering ls hs)) i ls hs rows matrix f e held
      (λ mid g m. addends_held ls hs bs p.1 q.1 more (suc i) mid matrix g m)
  addends_held [] hs L p q (group a b c bs g apart more) i rows matrix f e held = absurd p
  addends_held (la ∷ []) hs L p q (group a b c bs g apart more) i rows matrix f e held = absurd p.1
  addends_held (la ∷ lb ∷ []) hs L p q (group a b c bs g apart more) i rows matrix f e held = absurd p.1.1
  addends_held (la ∷ lb ∷ lc ∷ ls) [] L p q (group a b c bs g apart more) i rows matrix f e held = absurd q
  addends_held (la ∷ lb ∷ lc ∷ ls) (ua ∷ []) L p q (group a b c bs g apart more) i rows matrix f e held = absurd q.1
  addends_held (la ∷ lb ∷ lc ∷ ls) (ua ∷ ub ∷ []) L p q (group a b c bs g apart more) i rows matrix f e held = absurd q.1.1
  addends_held (la ∷ lb ∷ lc ∷ ls) (ua ∷ ub ∷ uc ∷ hs) L p q (group a b c bs g apart more) i rows matrix f e held =
      group_more la lb lc ua ub uc a b c bs p.0 p.1.0 p.1.1.0 q.0 q.1.0 q.1.1.0 g apart (with_addends s ends (suc (suc (suc i))) (addends_between s ordering ls hs)) i rows matrix f
      (as_group la lb lc ua ub uc i ls hs rows matrix (place_in_group la.law) (place_in_group lb.law) (place_in_group lc.law) (place_of_group la a 0 p.0 g.first) (place_of_group lb b 1 p.1.0 g.second) (place_of_group lc c 2 p.1.1.0 g.third) e)
      held (λ mid g m. addends_held ls hs bs p.1.1.1 q.1.1.1 more (suc (suc (suc i))) mid matrix g m)

-- ---- the exact matrix
-- rows of f
abbrev exact_rows : (ℕ → ℕ → Complex) → List ℕ → List ℕ → List (List Complex)
exact_rows f ordering nodes = map (λ n. map (f n) ordering) nodes

row_of : (g : ℕ → Complex) (ordering : List ℕ) → AllZip (λ k e. e ≈ g k) ordering (map g ordering)
row_of g [] = tt
row_of g (k ∷ ordering) = (same _, row_of g ordering)

rows_of : (f : ℕ → ℕ → Complex) (ordering nodes : List ℕ) → AllZip (λ n row. AllZip (λ k e. e ≈ f n k) ordering row) nodes (exact_rows f ordering nodes)
rows_of f ordering [] = tt
rows_of f ordering (n ∷ nodes) = (row_of (f n) ordering, rows_of f ordering nodes)

row_held : (s : ℕ) (g : ℕ → Complex) (ordering : List ℕ) (row : List Rectangle) → AllZip (λ k e. EnclosesComplex s e (g k)) ordering row → AllZip (EnclosesComplex s) row (map g ordering)
row_held s g [] [] z = tt
row_held s g [] (e ∷ row) z = absurd z
row_held s g (k ∷ ordering) [] z = absurd z
row_held s g (k ∷ ordering) (e ∷ row) z = (z.0, row_held s g ordering row z.1)

rows_held : (s : ℕ) (f : ℕ → ℕ → Complex) (ordering nodes : List ℕ) (rows : List (List Rectangle)) → AllZip (λ n row. AllZip (λ k e. EnclosesComplex s e (f n k)) ordering row) nodes rows → HoldsRows (EnclosesComplex s) rows (exact_rows f ordering nodes)
rows_held s f ordering [] [] z = tt
rows_held s f ordering [] (r ∷ rows) z = absurd z
rows_held s f ordering (n ∷ nodes) [] z = absurd z
rows_held s f ordering (n ∷ nodes) (r ∷ rows) z = (row_held s (f n) ordering r z.0, rows_held s f ordering nodes rows z.1)

plain_sum : (a : Complex) → nought ⊕ a ≈ a
plain_sum a = ring R (a ∷ []) (search reads depth 40 fits 4000) none_left

pub box_matrix_holds : (s : ℕ) → BoxMatrixHolds s
unfolding box_matrix
box_matrix_holds s low high driven ordering can lo hi matrix e h i lies network between =
    let ordered = order_along low network driven ordering between.from_low can.ordered in
    let listed = lists_live network driven ordering between.whole (live_up low network between.from_low driven can.driven_is_live) ordered in
    let start : Held s ordering (λ n k. nought) (nought_rows (length ordering)) = entries_same (λ n k b. EnclosesComplex s b nought) nought_rectangle (λ n k. nought_held s) ordering in
    let sum = addends_held s ordering (order_ends s lo hi) h (order_encloses s lo hi h i lies) network listed low.branches high.branches network.branches between.from_low.branches between.to_high.branches between.whole.groups
    0 (nought_rows (length ordering)) matrix (λ n k. nought) e start in
    let (n, last) = is_last low driven ordering can.ordered in
    record {
      parts = sum.parts;
      rows = exact_rows (nodal_entry sum.parts) ordering ordering;
      n = n;
      system = record {
        admitted = split_admittances network h sum.parts sum.split sum.live;
        listed = listed;
        entries = rows_of (nodal_entry sum.parts) ordering ordering;
      };
      last = last;
      held = rows_held s (nodal_entry sum.parts) ordering ordering matrix (held_along s ordering (λ n k. nought ⊕ nodal_entry sum.parts n k) (nodal_entry sum.parts) matrix (λ n k. plain_sum (nodal_entry sum.parts n k)) sum.held);
    }
