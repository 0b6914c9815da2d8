-- From held voltages: what leaves a node into a group of three coupled branches is held.
use Rattle.std.proofs.Common.{◌≡◌, ◌∙◌, ℕ, ◌+◌, arith, Bool, true, false, List, [], ◌∷◌, ap, refl, sym, subst}
use Rattle.std.specs.Prelude.{Some, Contains, ◌==◌, ◌&&◌, ◌||◌, slice_get, if◌then◌else◌}
use Rattle.exact_algebra.specs.Complex.{complex_numbers, real}
use Rattle.exact_algebra.proofs.Complexes.{complex_field}
use Rattle.exact_algebra.proofs.Reader.{reads, linear, weigh, join, none_left}
use Rattle.complex_interval.specs.Ends.{Ends, Encloses}
use Rattle.complex_interval.specs.Rectangles.{Rectangle, EnclosesComplex}
use Rattle.complex_interval.proofs.RectangleLaws.{add_encloses_rectangle, mul_encloses_rectangle}
use Rattle.network_theory.specs.Order.{Order, fraction}
use Rattle.network_theory.specs.Branch.{Tap, Branch, Coupled3}
use Rattle.network_theory.specs.Network.{Network, IsGroup}
use Rattle.network_theory.specs.Live.{Live, HasLiveNode, Carries, by_group}
use Rattle.network_theory.specs.Between.{BranchUpTo}
use Rattle.network_theory.specs.Current.{by_row}
use Rattle.network_theory.specs.State.{drop, leaving_by, KeepsLaw}
use Rattle.network_theory.proofs.Carried.{IsAmong}
use Rattle.network_theory.proofs.Laws.{GroupLaws, group-currents}
use Rattle.network_theory.proofs.Numbers.{R}
use Rattle.plain_elimination.specs.Matrix.{nought_rectangle}
use Rattle.admittance_box.specs.Addends.{has_place}
use Rattle.admittance_box.specs.Coupling.{Columns, law_coupling, coupling_columns}
use Rattle.admittance_box.specs.Current.{fold_pairs, with_tap_current, drop_between, is_at, Drops, live_drop, group_drops, row_current, with_row, with_rows, with_group}
use Rattle.admittance_box.specs.Steps.{◌>>=◌}
use Rattle.admittance_box.specs.Terminal.{HoldsVoltages}
use Rattle.admittance_box.proofs.HeldCouplings.{HoldsColumns, group_held}
use Rattle.admittance_box.proofs.HeldCurrents.{C, regroup, plain, kept, leaving-none, leaving_held, drop_held, is_node, is_other, owned, owned-none, owned-all, stays, live_at}
use Rattle.admittance_box.proofs.HeldGroups.{law_coupling_held}
use Rattle.admittance_box.proofs.HeldPairs.{along}
use Rattle.admittance_box.proofs.HeldTaps.{AreDead, dead_partner}
use Rattle.admittance_box.proofs.Laws.{nought_held}
use Rattle.admittance_box.proofs.Steps.{bind-some, value_is}
open complex_numbers use {◌≈◌, nought, unit, ◌⊕◌, ◌⊗◌}
open complex_field use {same, back, add_same}

-- ---- drops
module _ (s : ℕ) (ordering : List ℕ) (volts : List Rectangle) (V : ℕ → C) (held : HoldsVoltages s ordering volts V) (dead : (n : ℕ) → ¬ IsAmong n ordering → V n ≈ nought) where
  -- dead nodes have no voltage, so the drop of a branch between them is nought
  dead_drop : (vs : List Tap) → AreDead ordering vs → drop V vs ≈ nought
  dead_drop [] d = same _
  dead_drop (v ∷ vs) d = go (real v.ratio) (V v.node) (drop V vs) (dead v.node d.0) (dead_drop vs d.1)
    where
      go : (c x y : C) → x ≈ nought → y ≈ nought → c ⊗ x ⊕ y ≈ nought
      go c x y p q = linear R (c ∷ x ∷ y ∷ []) (join R (weigh R c p) (weigh R unit q)) (search reads depth 40 fits 4000) none_left

  live_drop_held : (a c b : Branch) → BranchUpTo a b → BranchUpTo b c → (r : Rectangle) → live_drop s ordering volts a c ≡ Some r → EnclosesComplex s r (drop V b.taps)
  live_drop_held a c b p q r e = go (has_place ordering a.taps) refl e
    where
      go : (t : Bool) → has_place ordering a.taps ≡ t → (if t then drop_between s ordering volts a.taps c.taps else Some nought_rectangle) ≡ Some r → EnclosesComplex s r (drop V b.taps)
      go true h f = along s r (nought ⊕ drop V b.taps) (drop V b.taps) (plain (drop V b.taps)) (drop_held s ordering volts V held a.taps c.taps b.taps p.taps q.taps nought_rectangle r nought (nought_held s) f)
      go false h f =
          subst (λ x. EnclosesComplex s x (drop V b.taps)) (kept nought_rectangle r f)
          (along s nought_rectangle nought (drop V b.taps) (back (dead_drop b.taps (dead_partner ordering a.taps b.taps p.taps h))) (nought_held s))

  -- the drops of a group hold the exact ones
  pub record HoldsDrops (drops : Drops) (a b c : Branch) : Type 0 where
    pub first : EnclosesComplex s drops.first (drop V a.taps)
    pub second : EnclosesComplex s drops.second (drop V b.taps)
    pub third : EnclosesComplex s drops.third (drop V c.taps)

  pub drops_held : (la lb lc ua ub uc a b c : Branch) → BranchUpTo la a → BranchUpTo lb b → BranchUpTo lc c → BranchUpTo a ua → BranchUpTo b ub → BranchUpTo c uc
      → (drops : Drops) → group_drops s ordering volts la lb lc ua ub uc ≡ Some drops → HoldsDrops drops a b c
  drops_held la lb lc ua ub uc a b c pa pb pc qa qb qc drops e =
      let (first, e1, n1) = bind-some _ _ drops e in
      let (second, e2, n2) = bind-some _ _ drops n1 in
      let (third, e3, last) = bind-some _ _ drops n2 in
      let is : record { first = first; second = second; third = third } ≡ drops = value_is _ _ last in
      subst (λ (d : Drops). HoldsDrops d a b c) is (record {
        first = live_drop_held la ua a pa qa first e1;
        second = live_drop_held lb ub b pb qb second e2;
        third = live_drop_held lc uc c pc qc third e3;
      })

-- ---- currents
-- a row of held admittances at held drops
row_current_held : (s : ℕ) (columns : Columns) (Y : ℕ → ℕ → C) → HoldsColumns s columns Y → (drops : Drops) (d1 d2 d3 : C) → EnclosesComplex s drops.first d1 → EnclosesComplex s drops.second d2 → EnclosesComplex s drops.third d3
    → (place : ℕ) (r : Rectangle) → row_current s columns drops place ≡ Some r → EnclosesComplex s r (by_row (Y place 0) (Y place 1) (Y place 2) d1 d2 d3)
row_current_held s columns Y hy drops d1 d2 d3 h1 h2 h3 place r e =
    let (a, e1, n1) = bind-some _ _ r e in
    let (b, e2, n2) = bind-some _ _ r n1 in
    let (c, e3, n3) = bind-some _ _ r n2 in
    let (x, e4, n4) = bind-some _ _ r n3 in
    let (y, e5, n5) = bind-some _ _ r n4 in
    let (z, e6, n6) = bind-some _ _ r n5 in
    let (two, e7, e8) = bind-some _ _ r n6 in
    let first = mul_encloses_rectangle s a drops.first x (Y place 0) d1 (hy.first place a e1) h1 e4 in
    let second = mul_encloses_rectangle s b drops.second y (Y place 1) d2 (hy.second place b e2) h2 e5 in
    let third = mul_encloses_rectangle s c drops.third z (Y place 2) d3 (hy.third place c e3) h3 e6 in
    let both = add_encloses_rectangle s x y two (Y place 0 ⊗ d1) (Y place 1 ⊗ d2) first second e7 in
    along s r ((Y place 0 ⊗ d1 ⊕ Y place 1 ⊗ d2) ⊕ Y place 2 ⊗ d3) (by_row (Y place 0) (Y place 1) (Y place 2) d1 d2 d3) (regroup (Y place 0 ⊗ d1) (Y place 1 ⊗ d2) (Y place 2 ⊗ d3))
    (add_encloses_rectangle s two z r (Y place 0 ⊗ d1 ⊕ Y place 1 ⊗ d2) (Y place 2 ⊗ d3) both third e8)

module _ (s owner node : ℕ) (columns : Columns) (drops : Drops) where
  -- what leaves the node into one branch of a group of the owner
  with_row_held : (place : ℕ) (l u b : Branch) → BranchUpTo l b → BranchUpTo b u → b.owner ≡ owner → (I : C) → ((x : Rectangle) → row_current s columns drops place ≡ Some x → EnclosesComplex s x I)
      → (sum r : Rectangle) (z : C) → EnclosesComplex s sum z → with_row s node columns drops place sum l u ≡ Some r → EnclosesComplex s r (z ⊕ owned owner node b I)
  with_row_held place l u b p q own I by sum r z k e = go (is_at node l.taps) refl e
    where
      go : (t : Bool) → is_at node l.taps ≡ t → (if t then row_current s columns drops place >>= (λ current. fold_pairs (with_tap_current s node current) sum l.taps u.taps) else Some sum) ≡ Some r → EnclosesComplex s r (z ⊕ owned owner node b I)
      go true j f =
          let (current, e1, e2) = bind-some _ _ r f in
          along s r (z ⊕ leaving_by b.taps I node) (z ⊕ owned owner node b I) (add_same (same z) (back (owned-all owner node b I own)))
          (leaving_held s node current I (by current e1) l.taps u.taps b.taps p.taps q.taps sum r z k e2)
      go false j f = stays s sum r z (owned owner node b I) (owned-none owner node b I (λ o. leaving-none node I l.taps b.taps p.taps j)) k f

  -- into all three
  with_rows_held : (la lb lc ua ub uc a b c : Branch) → BranchUpTo la a → BranchUpTo lb b → BranchUpTo lc c → BranchUpTo a ua → BranchUpTo b ub → BranchUpTo c uc → a.owner ≡ owner → b.owner ≡ owner → c.owner ≡ owner
      → (Y : ℕ → ℕ → C) → HoldsColumns s columns Y → (d1 d2 d3 : C) → EnclosesComplex s drops.first d1 → EnclosesComplex s drops.second d2 → EnclosesComplex s drops.third d3
      → (I : ℕ → C) → I 0 ≈ by_row (Y 0 0) (Y 0 1) (Y 0 2) d1 d2 d3 → I 1 ≈ by_row (Y 1 0) (Y 1 1) (Y 1 2) d1 d2 d3 → I 2 ≈ by_row (Y 2 0) (Y 2 1) (Y 2 2) d1 d2 d3
      → (sum r : Rectangle) (z : C) → EnclosesComplex s sum z → with_rows s node columns drops sum la lb lc ua ub uc ≡ Some r
      → EnclosesComplex s r (((z ⊕ owned owner node a (I 0)) ⊕ owned owner node b (I 1)) ⊕ owned owner node c (I 2))
  with_rows_held la lb lc ua ub uc a b c pa pb pc qa qb qc oa ob oc Y hy d1 d2 d3 h1 h2 h3 I i0 i1 i2 sum r z k e =
      let (one, e1, n1) = bind-some _ _ r e in
      let (two, e2, e3) = bind-some _ _ r n1 in
      let first = with_row_held 0 la ua a pa qa oa (I 0) (λ x g. along s x _ (I 0) (back i0) (row_current_held s columns Y hy drops d1 d2 d3 h1 h2 h3 0 x g)) sum one z k e1 in
      let second = with_row_held 1 lb ub b pb qb ob (I 1) (λ x g. along s x _ (I 1) (back i1) (row_current_held s columns Y hy drops d1 d2 d3 h1 h2 h3 1 x g)) one two (z ⊕ owned owner node a (I 0)) first e2 in
      with_row_held 2 lc uc c pc qc oc (I 2) (λ x g. along s x _ (I 2) (back i2) (row_current_held s columns Y hy drops d1 d2 d3 h1 h2 h3 2 x g)) two r ((z ⊕ owned owner node a (I 0)) ⊕ owned owner node b (I 1)) second e3

-- ---- laws
module _ (network : Network) (h : Order) (V J : ℕ → C) where
  -- the branches of a list, of which the first stands at place k, keep their laws
  abbrev pub KeepLaws : ℕ → List Branch → Type 0
  KeepLaws k bs = (i : ℕ) (b : Branch) → slice_get bs i ≡ Some b → Carries network b → KeepsLaw b.law h J (k + i) (drop V b.taps)

  -- they are branches of the network
  abbrev pub AreInside : List Branch → Type 0
  AreInside bs = (b : Branch) → Contains bs b → Contains network.branches b

  -- one of the list that is of a's group and has a live node
  pub record LiveOne (a : Branch) (bs : List Branch) : Type 0 where
    pub one : Branch
    pub has : Contains bs one
    pub same_group : one.group ≡ a.group
    pub live : HasLiveNode network one

  pub three_laws : (k : ℕ) (a b c : Branch) (bs : List Branch) (g : IsGroup a b c) → LiveOne a (a ∷ b ∷ c ∷ bs) → AreInside (a ∷ b ∷ c ∷ bs) → KeepLaws k (a ∷ b ∷ c ∷ bs)
      → GroupLaws g.first.values g.second.values g.third.values h J k (drop V a.taps) (drop V b.taps) (drop V c.taps)
  three_laws k a b c bs g o inside laws = record {
    first = subst (λ j. KeepsLaw (Coupled3 0 g.first.values) h J j (drop V a.taps)) none (subst (λ l. KeepsLaw l h J (k + 0) (drop V a.taps)) g.first.law (laws 0 a refl (carries a refl)));
    second = subst (λ l. KeepsLaw l h J (k + 1) (drop V b.taps)) g.second.law (laws 1 b refl (carries b g.same_second));
    third = subst (λ l. KeepsLaw l h J (k + 2) (drop V c.taps)) g.third.law (laws 2 c refl (carries c g.same_third));
  }
    where
      none : k + 0 ≡ k
      none = omega arith

      carries : (x : Branch) → x.group ≡ a.group → Carries network x
      carries x e = by_group o.one (inside o.one o.has) (λ q. g.number (sym o.same_group ∙ q)) (o.same_group ∙ sym e) o.live

-- ---- a group
module _ (s : ℕ) (ordering : List ℕ) (volts : List Rectangle) (V : ℕ → C) (held : HoldsVoltages s ordering volts V) (dead : (n : ℕ) → ¬ IsAmong n ordering → V n ≈ nought) (ends : Ends) (h : Order) (ho : Encloses s ends (fraction h))
    (network : Network) (owner node : ℕ) (live : Live network node) (J : ℕ → C) where
  module _ (la lb lc ua ub uc a b c : Branch) (pa : BranchUpTo la a) (pb : BranchUpTo lb b) (pc : BranchUpTo lc c) (qa : BranchUpTo a ua) (qb : BranchUpTo b ub) (qc : BranchUpTo c uc) (g : IsGroup a b c) (bs : List Branch) where
    some_live : (is_at node la.taps || is_at node lb.taps || is_at node lc.taps) ≡ true → LiveOne network h V J a (a ∷ b ∷ c ∷ bs)
    some_live e = go (is_at node la.taps) (is_at node lb.taps) (is_at node lc.taps) refl refl refl e
      where
        go : (x y z : Bool) → is_at node la.taps ≡ x → is_at node lb.taps ≡ y → is_at node lc.taps ≡ z → (x || y || z) ≡ true → LiveOne network h V J a (a ∷ b ∷ c ∷ bs)
        go true y z i j k e = record { one = a; has = (0, omega arith, refl); same_group = refl; live = live_at network node live la a pa i }
        go false true z i j k e = record { one = b; has = (1, omega arith, refl); same_group = g.same_second; live = live_at network node live lb b pb j }
        go false false true i j k e = record { one = c; has = (2, omega arith, refl); same_group = g.same_third; live = live_at network node live lc c pc k }
        go false false false i j k e = absurd cc

    -- where no tap is at the node, nothing leaves it
    none_leaves : (is_at node la.taps || is_at node lb.taps || is_at node lc.taps) ≡ false → (is_at node la.taps ≡ false) × (is_at node lb.taps ≡ false) × (is_at node lc.taps ≡ false)
    none_leaves e = go (is_at node la.taps) (is_at node lb.taps) (is_at node lc.taps) e
      where
        go : (x y z : Bool) → (x || y || z) ≡ false → (x ≡ false) × (y ≡ false) × (z ≡ false)
        go x y z e = grind arith

    -- a sum that stays
    stay : (I : ℕ → C) (sum r : Rectangle) (z : C) → owned owner node a (I 0) ≈ nought → owned owner node b (I 1) ≈ nought → owned owner node c (I 2) ≈ nought → EnclosesComplex s sum z → Some sum ≡ Some r
        → EnclosesComplex s r (((z ⊕ owned owner node a (I 0)) ⊕ owned owner node b (I 1)) ⊕ owned owner node c (I 2))
    stay I sum r z na nb nc k f =
        stays s sum r ((z ⊕ owned owner node a (I 0)) ⊕ owned owner node b (I 1)) (owned owner node c (I 2)) nc
        (stays s sum sum (z ⊕ owned owner node a (I 0)) (owned owner node b (I 1)) nb (stays s sum sum z (owned owner node a (I 0)) na k refl) refl) f

    -- what the admittances of one branch give at the exact drops
    abbrev at_drops : (ℕ → ℕ → C) → ℕ → C
    at_drops Y place = by_row (Y place 0) (Y place 1) (Y place 2) (drop V a.taps) (drop V b.taps) (drop V c.taps)

    pub with_group_held : (k : ℕ) → AreInside network h V J (a ∷ b ∷ c ∷ bs) → KeepLaws network h V J k (a ∷ b ∷ c ∷ bs) → (I : ℕ → C) → ((i : ℕ) → J (k + i) ≡ I i)
        → (sum r : Rectangle) (z : C) → EnclosesComplex s sum z → with_group s ends ordering volts owner node sum la lb lc ua ub uc ≡ Some r
        → EnclosesComplex s r (((z ⊕ owned owner node a (I 0)) ⊕ owned owner node b (I 1)) ⊕ owned owner node c (I 2))
    with_group_held k inside laws I are sum r z has e = go (la.owner == owner) (is_at node la.taps || is_at node lb.taps || is_at node lc.taps) refl refl e
      where
        none : J k ≡ I 0
        none = let e : k ≡ k + 0 = omega arith in ap J e ∙ are 0

        go : (t u : Bool) → (la.owner == owner) ≡ t → (is_at node la.taps || is_at node lb.taps || is_at node lc.taps) ≡ u
            → (if t && u then law_coupling s la.law ua.law >>= coupling_columns s ends >>= (λ columns. group_drops s ordering volts la lb lc ua ub uc >>= (λ drops. with_rows s node columns drops sum la lb lc ua ub uc)) else Some sum) ≡ Some r
            → EnclosesComplex s r (((z ⊕ owned owner node a (I 0)) ⊕ owned owner node b (I 1)) ⊕ owned owner node c (I 2))
        go true true i j f =
            let (columns, e1, n1) = bind-some (law_coupling s la.law ua.law >>= coupling_columns s ends) _ r f in
            let (values, e2, e3) = bind-some (law_coupling s la.law ua.law) (coupling_columns s ends) columns e1 in
            let (drops, e4, e5) = bind-some (group_drops s ordering volts la lb lc ua ub uc) _ r n1 in
            let coupled = law_coupling_held s la.law ua.law a.law values 0 g.first.values pa.law qa.law g.first.law e2 in
            let group = group_held s ends values columns h g.first.values g.second.values g.third.values ho coupled g.equal_second g.equal_third e3 in
            let falls = drops_held s ordering volts V held dead la lb lc ua ub uc a b c pa pb pc qa qb qc drops e4 in
            let flow = group-currents g.first.values g.second.values g.third.values h group.Y J k (drop V a.taps) (drop V b.taps) (drop V c.taps) group.inverts (three_laws network h V J k a b c bs g (some_live j) inside laws) in
            let own : a.owner ≡ owner = sym pa.owner ∙ is_node la.owner owner i in
            with_rows_held s owner node columns drops la lb lc ua ub uc a b c pa pb pc qa qb qc own (g.owner_second ∙ own) (g.owner_third ∙ own) group.Y group.held (drop V a.taps) (drop V b.taps) (drop V c.taps) falls.first falls.second falls.third
            I (subst (λ x. x ≈ at_drops group.Y 0) none flow.first) (subst (λ x. x ≈ at_drops group.Y 1) (are 1) flow.second) (subst (λ x. x ≈ at_drops group.Y 2) (are 2) flow.third) sum r z has e5
        go true false i j f =
            let (ja, jb, jc) = none_leaves j in
            stay I sum r z (owned-none owner node a (I 0) (λ o. leaving-none node (I 0) la.taps a.taps pa.taps ja)) (owned-none owner node b (I 1) (λ o. leaving-none node (I 1) lb.taps b.taps pb.taps jb))
            (owned-none owner node c (I 2) (λ o. leaving-none node (I 2) lc.taps c.taps pc.taps jc)) has f
        go false u i j f =
            let other : ¬ (a.owner ≡ owner) = λ o. is_other la.owner owner i (pa.owner ∙ o) in
            stay I sum r z (owned-none owner node a (I 0) (λ o. absurd (other o))) (owned-none owner node b (I 1) (λ o. absurd (other (sym g.owner_second ∙ o)))) (owned-none owner node c (I 2) (λ o. absurd (other (sym g.owner_third ∙ o)))) has f
