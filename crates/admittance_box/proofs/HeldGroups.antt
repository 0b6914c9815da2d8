-- What a group of three coupled branches adds to the matrix of a box is held.
use Rattle.std.proofs.Common.{◌≡◌, ◌<◌, ℕ, zero, suc, Bool, true, false, List, [], ◌∷◌, get_or, refl, subst, arith, Option}
use Rattle.std.specs.Prelude.{Some, None, Contains, ◌||◌, if◌then◌else◌}
use Rattle.exact_algebra.specs.Complex.{Complex, complex_numbers}
use Rattle.exact_algebra.proofs.Complexes.{complex_field}
use Rattle.exact_algebra.proofs.Reader.{reads, ring, linear, weigh, join, none_left}
use Rattle.complex_interval.specs.Ends.{Ends, Encloses}
use Rattle.complex_interval.specs.Rectangles.{Rectangle}
use Rattle.network_theory.specs.Order.{Order, fraction}
use Rattle.network_theory.specs.Branch.{Law, Series, Shunt, Coupled3, Coupling, Branch}
use Rattle.network_theory.specs.Network.{Network, IsGroup}
use Rattle.network_theory.specs.Between.{LawUpTo, BranchUpTo}
use Rattle.network_theory.specs.Live.{HasLiveNode}
use Rattle.network_theory.specs.Admittance.{Group, IsGroupAdmittance}
use Rattle.network_theory.specs.Nodal.{ListsLive, pair_entry, part_entry}
use Rattle.network_theory.proofs.Bridge.{contains_among}
use Rattle.network_theory.proofs.Numbers.{R}
use Rattle.admittance_box.specs.Addends.{PlacedTap, PairRow, PairRows, Dead, has_place, pair_row, pair_rows, group_pairs, grouped, group_between}
use Rattle.admittance_box.specs.BoxMatrix.{with_pair_row, with_pair_rows, with_addend}
use Rattle.admittance_box.specs.Coupling.{CouplingEnds, Columns, law_coupling, coupling_columns}
use Rattle.admittance_box.specs.Steps.{◌>>=◌}
use Rattle.admittance_box.proofs.GroupPairs.{row_pairs, rows_pairs, row_steps}
use Rattle.admittance_box.proofs.HeldCouplings.{HoldsCoupling, coupling_held, HoldsColumns, group_held}
use Rattle.admittance_box.proofs.HeldPairs.{Held, held_along, pairs-nought, plus-none}
use Rattle.admittance_box.proofs.HeldTaps.{StandsFor, taps_stand, stand_hold}
use Rattle.admittance_box.proofs.LivePlaces.{has_place-tap}
use Rattle.admittance_box.proofs.Steps.{bind-some}
open complex_numbers use {◌≈◌, nought, unit, ◌⊕◌}
open complex_field use {same, next}

-- ---- sums
in_rows : (x a b c d e f g h i : Complex) → (((((((((x ⊕ a) ⊕ b) ⊕ c) ⊕ d) ⊕ e) ⊕ f) ⊕ g) ⊕ h) ⊕ i) ≈ x ⊕ (a ⊕ b ⊕ c ⊕ d ⊕ e ⊕ f ⊕ g ⊕ h ⊕ i)
in_rows x a b c d e f g h i = ring R (x ∷ a ∷ b ∷ c ∷ d ∷ e ∷ f ∷ g ∷ h ∷ i ∷ []) (search reads depth 40 fits 4000) none_left

by_threes : (a b c d e f g h i : Complex) → a ⊕ b ⊕ c ⊕ d ⊕ e ⊕ f ⊕ g ⊕ h ⊕ i ≈ (a ⊕ (b ⊕ c)) ⊕ ((d ⊕ (e ⊕ f)) ⊕ (g ⊕ (h ⊕ i)))
by_threes a b c d e f g h i = ring R (a ∷ b ∷ c ∷ d ∷ e ∷ f ∷ g ∷ h ∷ i ∷ []) (search reads depth 40 fits 4000) none_left

three_nought : (a b c : Complex) → a ≈ nought → b ≈ nought → c ≈ nought → a ⊕ (b ⊕ c) ≈ nought
three_nought a b c ea eb ec = linear R (a ∷ b ∷ c ∷ []) (join R (weigh R unit ea) (join R (weigh R unit eb) (weigh R unit ec))) (search reads depth 40 fits 4000) none_left

nine_nought : (a b c d e f g h i : Complex) → a ≈ nought → b ≈ nought → c ≈ nought → d ≈ nought → e ≈ nought → f ≈ nought → g ≈ nought → h ≈ nought → i ≈ nought → a ⊕ b ⊕ c ⊕ d ⊕ e ⊕ f ⊕ g ⊕ h ⊕ i ≈ nought
nine_nought a b c d e f g h i ea eb ec ed ee ef eg eh ei =
    next (by_threes a b c d e f g h i) (three_nought _ _ _ (three_nought a b c ea eb ec) (three_nought d e f ed ee ef) (three_nought g h i eg eh ei))

-- a group without admittances adds nothing
pub part-nought : (a b c : Branch) (n k : ℕ) → part_entry (Group a b c (λ p q. nought)) n k ≈ nought
part-nought a b c n k =
    let none = λ (v w : Branch). pairs-nought v.taps w.taps nought (same _) n k in
    nine_nought _ _ _ _ _ _ _ _ _ (none a a) (none a b) (none a c) (none b a) (none b b) (none b c) (none c a) (none c b) (none c c)

-- ---- values
-- the intervals from one law to the other hold the values of the law between
pub law_coupling_held : (s : ℕ) (l u v : Law) (p : CouplingEnds) (place : ℕ) (c : Coupling) → LawUpTo l v → LawUpTo v u → v ≡ Coupled3 place c → law_coupling s l u ≡ Some p → HoldsCoupling s p c
law_coupling_held s l u v p place c a b is e = go l u (subst (λ w. LawUpTo l w) is a) (subst (λ w. LawUpTo w u) is b) e
  where
    go : (l u : Law) → LawUpTo l (Coupled3 place c) → LawUpTo (Coupled3 place c) u → law_coupling s l u ≡ Some p → HoldsCoupling s p c
    go (Series r k m x xc) u a b e = absurd a
    go (Shunt y) u a b e = absurd a
    go (Coupled3 q d) (Series r k m x xc) a b e = absurd b
    go (Coupled3 q d) (Shunt y) a b e = absurd b
    go (Coupled3 q d) (Coupled3 q' d') a b e = coupling_held s d d' c p a.1 b.1 e

-- a member of three
one_of_three : (P : Branch → Type 0) (a b c o : Branch) → Contains (a ∷ b ∷ c ∷ []) o → P a → P b → P c → P o
one_of_three P a b c o k pa pb pc = at k.0 k.1 k.2
  where
    at : (i : ℕ) → i < 3 → get_or (a ∷ b ∷ c ∷ []) i o ≡ o → P o
    at zero l e = subst P e pa
    at (suc zero) l e = subst P e pb
    at (suc (suc zero)) l e = subst P e pc
    at (suc (suc (suc i))) l e = absurd (omega arith)

none_of_three : (a b c : Bool) → (a || b || c) ≡ false → (a ≡ false) × (b ≡ false) × (c ≡ false)
none_of_three a b c e = grind arith

module _ (s : ℕ) (ordering : List ℕ) (ends : Ends) (h : Order) (ho : Encloses s ends (fraction h)) (network : Network) (listed : ListsLive network ordering) where
  module _ (columns : Columns) (Y : ℕ → ℕ → Complex) (hy : HoldsColumns s columns Y) (xs bs cs : List PlacedTap) (a b c : Branch) (ha : StandsFor s ordering xs a.taps) (hb : StandsFor s ordering bs b.taps) (hc : StandsFor s ordering cs c.taps) where
    -- what the admittances of one branch add
    row_held : (place : ℕ) (taps : List PlacedTap) (v : Branch) → StandsFor s ordering taps v.taps → (row : PairRow) → pair_row s taps xs bs cs ≡ Some row → (rows after : List (List Rectangle)) (f : ℕ → ℕ → Complex)
        → with_pair_row s columns place row rows ≡ Some after → Held s ordering f rows
        → Held s ordering (λ n k. ((f n k ⊕ pair_entry v.taps a.taps (Y place 0) n k) ⊕ pair_entry v.taps b.taps (Y place 1) n k) ⊕ pair_entry v.taps c.taps (Y place 2) n k) after
    row_held place taps v hv row e rows after f g held =
        let (k1, k2, k3) = row_pairs s taps xs bs cs row e in
        let t = row_steps s columns place row rows after g in
        let first = stand_hold s ordering listed.distinct t.a (Y place 0) (hy.first place t.a t.at_first) taps v.taps hv xs a.taps ha row.first k1 rows t.one f t.first held in
        let second = stand_hold s ordering listed.distinct t.b (Y place 1) (hy.second place t.b t.at_second) taps v.taps hv bs b.taps hb row.second k2 t.one t.two _ t.second first in
        stand_hold s ordering listed.distinct t.c (Y place 2) (hy.third place t.c t.at_third) taps v.taps hv cs c.taps hc row.third k3 t.two after _ t.third second

    -- what those of all three add
    rows_held : (pairs : PairRows) → pair_rows s xs bs cs ≡ Some pairs → (rows after : List (List Rectangle)) (f : ℕ → ℕ → Complex) → with_pair_rows s columns pairs rows ≡ Some after → Held s ordering f rows
        → Held s ordering (λ n k. f n k ⊕ part_entry (Group a b c Y) n k) after
    rows_held pairs e rows after f g held =
        let (k1, k2, k3) = rows_pairs s xs bs cs pairs e in
        let (two, g2, g3) = bind-some (with_pair_row s columns 0 pairs.first rows >>= with_pair_row s columns 1 pairs.second) (with_pair_row s columns 2 pairs.third) after g in
        let (one, g0, g1) = bind-some (with_pair_row s columns 0 pairs.first rows) (with_pair_row s columns 1 pairs.second) two g2 in
        let first = row_held 0 xs a ha pairs.first k1 rows one f g0 held in
        let second = row_held 1 bs b hb pairs.second k2 one two _ g1 first in
        let third = row_held 2 cs c hc pairs.third k3 two after _ g3 second in
        held_along s ordering _ (λ n k. f n k ⊕ part_entry (Group a b c Y) n k) after (λ n k. in_rows (f n k) _ _ _ _ _ _ _ _ _) third

  -- what a group adds is held
  pub record HeldGroup (f : ℕ → ℕ → Complex) (a b c : Branch) (g : IsGroup a b c) (after : List (List Rectangle)) : Type 0 where
    pub Y : ℕ → ℕ → Complex
    pub admitted : (o : Branch) → Contains (a ∷ b ∷ c ∷ []) o → HasLiveNode network o → IsGroupAdmittance h g.first.values g.second.values g.third.values Y
    pub held : Held s ordering (λ n k. f n k ⊕ part_entry (Group a b c Y) n k) after

  module _ (la lb lc ua ub uc a b c : Branch) (pa : BranchUpTo la a) (pb : BranchUpTo lb b) (pc : BranchUpTo lc c) (qa : BranchUpTo a ua) (qb : BranchUpTo b ub) (qc : BranchUpTo c uc) (g : IsGroup a b c) where
    grouped_held : (values : Option CouplingEnds) → law_coupling s la.law ua.law ≡ values → (pairs : Option PairRows) → group_pairs s ordering la lb lc ua ub uc ≡ pairs
        → (rows after : List (List Rectangle)) (f : ℕ → ℕ → Complex) → with_addend s ends (grouped values pairs) rows ≡ Some after → Held s ordering f rows → HeldGroup f a b c g after
    grouped_held None e pairs k rows after f m held = absurd cc
    grouped_held (Some values) e None k rows after f m held = absurd cc
    grouped_held (Some values) e (Some pairs) k rows after f m held =
        let (columns, e1, e2) = bind-some (coupling_columns s ends values) (λ columns. with_pair_rows s columns pairs rows) after m in
        let (xs, k1, n1) = bind-some _ _ pairs k in
        let (bs, k2, n2) = bind-some _ _ pairs n1 in
        let (cs, k3, n3) = bind-some _ _ pairs n2 in
        let coupled = law_coupling_held s la.law ua.law a.law values 0 g.first.values pa.law qa.law g.first.law e in
        let group = group_held s ends values columns h g.first.values g.second.values g.third.values ho coupled g.equal_second g.equal_third e1 in
        record {
          Y = group.Y;
          admitted = λ o i l. group.inverts;
          held = rows_held columns group.Y group.held xs bs cs a b c (taps_stand s ordering la ua a xs pa qa k1) (taps_stand s ordering lb ub b bs pb qb k2) (taps_stand s ordering lc uc c cs pc qc k3) pairs n3 rows after f e2 held;
        }

    pub group_adds : (rows after : List (List Rectangle)) (f : ℕ → ℕ → Complex) → with_addend s ends (group_between s ordering la lb lc ua ub uc) rows ≡ Some after → Held s ordering f rows → HeldGroup f a b c g after
    group_adds rows after f m held = go (has_place ordering la.taps || has_place ordering lb.taps || has_place ordering lc.taps) refl m
      where
        -- a branch whose partner has no place has no live node
        dead : (l o : Branch) → BranchUpTo l o → has_place ordering l.taps ≡ false → HasLiveNode network o → ⊥
        dead l o p e v = let has = has_place-tap ordering l.taps o.taps p.taps v.tap v.has (contains_among v.tap.node ordering ((listed.live v.tap.node).0 v.live)) in cc

        go : (t : Bool) → (has_place ordering la.taps || has_place ordering lb.taps || has_place ordering lc.taps) ≡ t
            → with_addend s ends (if t then grouped (law_coupling s la.law ua.law) (group_pairs s ordering la lb lc ua ub uc) else Dead) rows ≡ Some after → HeldGroup f a b c g after
        go true e m = grouped_held (law_coupling s la.law ua.law) refl (group_pairs s ordering la lb lc ua ub uc) refl rows after f m held
        go false e m =
            let (ea, eb, ec) = none_of_three (has_place ordering la.taps) (has_place ordering lb.taps) (has_place ordering lc.taps) e in
            let is : rows ≡ after = cc in
            let sum : ℕ → ℕ → Complex = λ n k. f n k ⊕ part_entry (Group a b c (λ p q. nought)) n k in
            record {
              Y = λ p q. nought;
              admitted = λ o i. one_of_three (λ x. HasLiveNode network x → IsGroupAdmittance h g.first.values g.second.values g.third.values (λ p q. nought)) a b c o i
                  (λ v. absurd (dead la a pa ea v)) (λ v. absurd (dead lb b pb eb v)) (λ v. absurd (dead lc c pc ec v));
              held = subst (Held s ordering sum) is (held_along s ordering f sum rows (λ n k. plus-none (f n k) _ (part-nought a b c n k)) held);
            }
