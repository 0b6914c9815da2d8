-- An estimate over a box holds with an extra susceptance at the driven node.
use Rattle.std.proofs.Common.{◌≡◌, ◌≢◌, ◌∙◌, ℕ, zero, suc, ◌-◌, ◌<◌, append_assoc, Bool, true, false, List, [], ◌∷◌, ◌++◌, length, refl, sym, subst, ap, arith, pos, Option, Some, None, Ok}
use Rattle.std.specs.Prelude.{int_lt, if◌then◌else◌}
use Rattle.std.specs.List.{AllZip, AllByRecursion}
use Rattle.std.specs.Option.{option_map}
use Rattle.exact_algebra.specs.Ratio.{Ratio, whole}
use Rattle.complex_interval.specs.Ends.{Ends, range_ends}
use Rattle.network_theory.specs.Branch.{Branch}
use Rattle.network_theory.specs.Network.{Network, IsUncoupled, IsGrouped, done, alone, group}
use Rattle.network_theory.specs.Between.{BranchUpTo, IsPair, LiesBetween}
use Rattle.network_theory.specs.Extra.{shunt_at, with_shunt}
use Rattle.network_theory.proofs.Extra as E
use Rattle.network_theory.proofs.More.{up_to}
use Rattle.network_theory.proofs.Phases.{live_is_node}
use Rattle.admittance_box.specs.Addends.{OfShunt, tap_pairs, has_place, place_in_group}
use Rattle.admittance_box.specs.HeldMatrix.{CanAssemble}
use Rattle.admittance_box.specs.Orders.{order_ends}
use Rattle.admittance_box.specs.Places.{place_of}
use Rattle.admittance_box.specs.Steps.{◌>>=◌}
use Rattle.admittance_box.proofs.LivePairs.{live_up}
use Rattle.admittance_box.proofs.NodeOrderings.{is_last, lists_live, order_along}
use Rattle.admittance_box.proofs.Steps.{bind-some}
use Rattle.branchwise_test.specs.Drops.{DropEnds, LiveBranch, node_drops, live_branch, first_live, live_branches, extra_branch}
use Rattle.branchwise_test.specs.Enclosed.{near_of, impedance_near_with}
use Rattle.branchwise_test.specs.Holds.{IsNear, ImpedanceIsNear}
use Rattle.branchwise_test.proofs.Zips.{zip_end, each_at}
use Rattle.branchwise_test.proofs.Branches.{places_are}
use Rattle.branchwise_test.proofs.Main.{valued-ok, live_near}

all_end : {X : Type 0} (P : X → Type 0) (xs : List X) (x : X) → AllByRecursion P xs → P x → AllByRecursion P (xs ++ x ∷ [])
all_end P [] x a p = (p, tt)
all_end P (y ∷ xs) x a p = (a.0, all_end P xs x a.1 p)

-- with one more uncoupled branch they are grouped still
grouped_end : (bs : List Branch) (x : Branch) → IsUncoupled x → x.group ≡ 0 → IsGrouped bs → IsGrouped (bs ++ x ∷ [])
grouped_end L x u z done = alone x [] u done
grouped_end L x u z (alone b bs v more) = alone b (bs ++ x ∷ []) v (grouped_end bs x u z more)
grouped_end L x u z (group a b c bs g apart more) =
    group a b c (bs ++ x ∷ []) g (all_end (λ o. o.group ≢ a.group) bs x apart (λ e. g.number (sym e ∙ z))) (grouped_end bs x u z more)

-- ---- a pair with the shunt
module _ (driven : ℕ) (e : Ratio) where
  abbrev shunted : Network → Network
  shunted network = with_shunt network driven e

  shunt_up_to : BranchUpTo (shunt_at driven e) (shunt_at driven e)
  shunt_up_to = record { taps = (record { node = refl; ratio = up_to (whole (pos 1)) }, tt); law = up_to e; group = refl; owner = refl }

  pair_shunted : (low high : Network) → IsPair low high → IsPair (shunted low) (shunted high)
  pair_shunted low high p = record { buses = p.buses; nodes = p.nodes; branches = zip_end BranchUpTo low.branches high.branches (shunt_at driven e) (shunt_at driven e) p.branches shunt_up_to }

  can_shunted : (low high : Network) (ordering : List ℕ) → CanAssemble low high driven ordering → CanAssemble (shunted low) (shunted high) driven ordering
  can_shunted low high ordering can =
      record {
        pair = pair_shunted low high can.pair;
        driven_is_live = E.live_up low driven e driven can.driven_is_live;
        ordered = record {
          live = can.ordered.live;
          right = λ n. (λ t. E.live_up low driven e n ((can.ordered.right n).0 t), λ l. (can.ordered.right n).1 (E.live_down low driven e can.driven_is_live n l));
          same = can.ordered.same;
        };
      }

  between_shunted : (network low high : Network) (ordering : List ℕ) → CanAssemble low high driven ordering → LiesBetween network low high → LiesBetween (shunted network) (shunted low) (shunted high)
  between_shunted network low high ordering can between =
      record {
        whole = record {
          buses = between.whole.buses;
          taps = all_end (λ (b : Branch). AllByRecursion (λ t. t.node < network.nodes) b.taps) network.branches (shunt_at driven e) between.whole.taps (live_is_node network between.whole driven (live_up low network between.from_low driven can.driven_is_live), tt);
          groups = grouped_end network.branches (shunt_at driven e) refl refl between.whole.groups;
        };
        from_low = pair_shunted low network between.from_low;
        to_high = pair_shunted network high between.to_high;
      }

  -- ---- its live branches
  module _ (s : ℕ) (ordering : List ℕ) (k : ℕ) (place : place_of ordering driven ≡ Some k) where
    shunt_live : (extra : LiveBranch) → extra_branch s k e ≡ Some extra → live_branch s ordering (shunt_at driven e) (shunt_at driven e) ≡ Some extra
    shunt_live extra q = rw place (go (range_ends s e e) (range_ends s (whole (pos 1)) (whole (pos 1))) q)
      where
        go : (o p : Option Ends) → (o >>= (λ b. p >>= (λ one. tap_pairs s ((record { place = k; ratio = one } ∷ [])) ((record { place = k; ratio = one } ∷ [])) >>= (λ pairs. Some (record { law = OfShunt b; taps = (record { place = k; ratio = one } ∷ []); pairs = pairs }))))) ≡ Some extra
            → (option_map OfShunt o >>= (λ law. ((p >>= (λ one. Some (record { place = k; ratio = one }))) >>= (λ tap. Some (tap ∷ []))) >>= (λ taps. tap_pairs s taps taps >>= (λ pairs. Some (record { law = law; taps = taps; pairs = pairs }))))) ≡ Some extra
        go None p n = absurd cc
        go (Some b) None n = absurd cc
        go (Some b) (Some one) n = n

    -- what is live at a branch stays so with further branches at the end
    still_first : (place : Option ℕ) (l c : Branch) (ls hs ms ns : List Branch) (here : List LiveBranch) → first_live s ordering place l ls c hs ≡ Some here → first_live s ordering place l (ls ++ ms) c (hs ++ ns) ≡ Some here
    still_first None l c ls hs ms ns here e = e
    still_first (Some (suc k)) l c ls hs ms ns here e = e
    still_first (Some zero) l c [] hs ms ns here e = absurd cc
    still_first (Some zero) l c (b ∷ []) hs ms ns here e = absurd cc
    still_first (Some zero) l c (b ∷ d ∷ ls) [] ms ns here e = absurd cc
    still_first (Some zero) l c (b ∷ d ∷ ls) (b' ∷ []) ms ns here e = absurd cc
    still_first (Some zero) l c (b ∷ d ∷ ls) (b' ∷ d' ∷ hs) ms ns here e = e

    live_shunted : (ls hs : List Branch) → AllZip BranchUpTo ls hs → (branches : List LiveBranch) → live_branches s ordering ls hs ≡ Some branches → (extra : LiveBranch) → extra_branch s k e ≡ Some extra
        → live_branches s ordering (ls ++ shunt_at driven e ∷ []) (hs ++ shunt_at driven e ∷ []) ≡ Some (branches ++ extra ∷ [])
    live_shunted [] [] z branches m extra q =
        let none : [] ≡ branches = cc in
        subst (λ l. live_branches s ordering (shunt_at driven e ∷ []) (shunt_at driven e ∷ []) ≡ Some (l ++ extra ∷ [])) none (last (has_place ordering (shunt_at driven e).taps) here (live_branch s ordering (shunt_at driven e) (shunt_at driven e)) (shunt_live extra q))
      where
        here : has_place ordering (shunt_at driven e).taps ≡ true
        here = rw place refl

        last : (t : Bool) → t ≡ true → (o : Option LiveBranch) → o ≡ Some extra → ((if t then o >>= (λ l. Some (l ∷ [])) else Some []) >>= (λ h. Some (h ++ []))) ≡ Some (extra ∷ [])
        last true t (Some l) n = let is : l ≡ extra = cc in ap (λ b. Some (b ∷ [])) is
        last true t None n = absurd cc
        last false t o n = absurd cc
    live_shunted [] (c ∷ hs) z branches m extra q = absurd z
    live_shunted (l ∷ ls) [] z branches m extra q = absurd z
    live_shunted (l ∷ ls) (c ∷ hs) z branches m extra q =
        both (first_live s ordering (place_in_group l.law) l ls c hs) (first_live s ordering (place_in_group l.law) l (ls ++ shunt_at driven e ∷ []) c (hs ++ shunt_at driven e ∷ []))
        (live_branches s ordering ls hs) (live_branches s ordering (ls ++ shunt_at driven e ∷ []) (hs ++ shunt_at driven e ∷ [])) m
        (λ here. still_first (place_in_group l.law) l c ls hs (shunt_at driven e ∷ []) (shunt_at driven e ∷ []) here) (λ rest r. live_shunted ls hs z.1 rest r extra q)
      where
        both : (o o' r r' : Option (List LiveBranch)) → (o >>= (λ x. r >>= (λ xs. Some (x ++ xs)))) ≡ Some branches → ((here : List LiveBranch) → o ≡ Some here → o' ≡ Some here) → ((rest : List LiveBranch) → r ≡ Some rest → r' ≡ Some (rest ++ extra ∷ []))
            → (o' >>= (λ x. r' >>= (λ xs. Some (x ++ xs)))) ≡ Some (branches ++ extra ∷ [])
        both None o' r r' m same more = absurd cc
        both (Some x) o' None r' m same more = absurd cc
        both (Some x) o' (Some xs) r' m same more =
            let is : x ++ xs ≡ branches = cc in
            rw (same x refl, more xs refl) (ap Some (sym (append_assoc x xs (extra ∷ [])) ∙ ap (λ bs. bs ++ extra ∷ []) is))

-- ---- the whole
pub impedance_is_near : (s : ℕ) → ImpedanceIsNear s
unfolding impedance_near_with
impedance_is_near s low high driven ordering can e lo hi near q h is_order lies network between =
    let (nodes, e0, n0) = valued-ok _ _ near q in
    let (all, e1, n1) = valued-ok _ _ near n0 in
    let (branches, e2, n2) = bind-some _ _ all e1 in
    go (int_lt (pos 0) e.num) nodes e0 branches e2 all n2 n1
  where
    place : place_of ordering driven ≡ Some (length ordering - 1)
    place =
        let (n, last) = is_last low driven ordering can.ordered in
        let here : n ≡ length ordering - 1 = let c = last.count in omega (arith, c) in
        let listed = lists_live network driven ordering between.whole (live_up low network between.from_low driven can.driven_is_live) (order_along low network driven ordering between.from_low can.ordered) in
        subst (λ i. place_of ordering driven ≡ Some i) here (subst (λ m. place_of ordering m ≡ Some n) last.last (each_at (λ i m. place_of ordering m ≡ Some i) 0 ordering n (let c = last.count in omega (arith, c)) (places_are ordering listed.distinct)))

    go : (t : Bool) (nodes : List DropEnds) → node_drops s 0 (length ordering) ≡ Some nodes → (branches : List LiveBranch) → live_branches s ordering low.branches high.branches ≡ Some branches
        → (all : List LiveBranch) → (if t then extra_branch s (length ordering - 1) e >>= (λ extra. Some (branches ++ extra ∷ [])) else Some branches) ≡ Some all
        → near_of s (order_ends s lo hi) nodes all ≡ Ok near → IsNear s (if t then with_shunt network driven e else network) h driven near
    go true nodes e0 branches e2 all m n =
        let (extra, e3, n3) = bind-some _ _ all m in
        let is : branches ++ extra ∷ [] ≡ all = cc in
        live_near s (shunted driven e low) (shunted driven e high) driven ordering (can_shunted driven e low high ordering can) lo hi near nodes e0 all
        (subst (λ bs. live_branches s ordering (low.branches ++ shunt_at driven e ∷ []) (high.branches ++ shunt_at driven e ∷ []) ≡ Some bs) is (live_shunted driven e s ordering (length ordering - 1) place low.branches high.branches can.pair.branches branches e2 extra e3)) n h is_order lies
        (shunted driven e network) (between_shunted driven e network low high ordering can between)
    go false nodes e0 branches e2 all m n =
        let is : branches ≡ all = cc in
        live_near s low high driven ordering can lo hi near nodes e0 all (subst (λ bs. live_branches s ordering low.branches high.branches ≡ Some bs) is e2) n h is_order lies network between
