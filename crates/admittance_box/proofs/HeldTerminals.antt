-- The terminal current of held voltages holds that of the exact state.
use Rattle.std.proofs.Common.{◌≡◌, ◌∙◌, ℕ, suc, ◌+◌, arith, List, [], ◌∷◌, map, ap, refl, sym, subst, Option}
use Rattle.std.specs.Option.{option_map}
use Rattle.std.specs.Prelude.{Some, None, IfSome, Contains}
use Rattle.std.specs.List.{AllZip}
use Rattle.exact_algebra.specs.Complex.{complex_numbers}
use Rattle.exact_algebra.proofs.Complexes.{complex_field}
use Rattle.exact_algebra.proofs.Reader.{reads, ring, none_left}
use Rattle.complex_interval.specs.Ends.{Ends, Encloses}
use Rattle.complex_interval.specs.Rectangles.{Rectangle, EnclosesComplex}
use Rattle.network_theory.specs.Order.{Order, fraction}
use Rattle.network_theory.specs.Branch.{Branch}
use Rattle.network_theory.specs.Network.{Network, IsGrouped, done, alone, group}
use Rattle.network_theory.specs.Live.{Live, itself}
use Rattle.network_theory.specs.Between.{BranchUpTo}
use Rattle.network_theory.specs.State.{drop, KeepsLaw}
use Rattle.network_theory.proofs.Bridge.{contains_among}
use Rattle.network_theory.proofs.Carried.{IsAmong}
use Rattle.network_theory.proofs.Laws.{law-current}
use Rattle.network_theory.proofs.Numbers.{R}
use Rattle.net_branch.specs.declared.network.Branch.{Branch as NetBranch}
use Rattle.net_branch.specs.declared.network.Network.{Network as NetNetwork}
use Rattle.net_branch.specs.Exact.{exact_branch, exact_network}
use Rattle.plain_elimination.specs.Matrix.{nought_rectangle}
use Rattle.admittance_box.specs.Addends.{place_in_group}
use Rattle.admittance_box.specs.Assembled.{Assembled}
use Rattle.admittance_box.specs.Current.{with_group, with_first, with_all, terminal_current}
use Rattle.admittance_box.specs.HeldMatrix.{CanAssemble}
use Rattle.admittance_box.specs.Orders.{order_ends}
use Rattle.admittance_box.specs.Steps.{◌>>=◌}
use Rattle.admittance_box.specs.Terminal.{terminal_of, HoldsVoltages, HoldsTerminal}
use Rattle.admittance_box.proofs.HeldCurrents.{C, regroup, plain, kept, owned, one_held}
use Rattle.admittance_box.proofs.HeldGroupCurrents.{KeepLaws, AreInside, with_group_held}
use Rattle.admittance_box.proofs.HeldMatrices.{place_alone, place_of_group}
use Rattle.admittance_box.proofs.HeldPairs.{along, plus-none}
use Rattle.admittance_box.proofs.Laws.{nought_held}
use Rattle.admittance_box.proofs.LivePairs.{live_up}
use Rattle.admittance_box.proofs.NodeOrderings.{lists_live, order_along}
use Rattle.admittance_box.proofs.Ranges.{order_encloses}
use Rattle.admittance_box.proofs.Steps.{bind-some}
open complex_numbers use {◌≈◌, nought, ◌⊕◌, ◌⊗◌}
open complex_field use {same}

-- one more item in front
later : {X : Type 0} (xs : List X) (y x : X) → Contains xs x → Contains (y ∷ xs) x
later xs y x k = (suc k.0, omega (arith, k.1), k.2)

by_threes : (z a b c t : C) → (((z ⊕ a) ⊕ b) ⊕ c) ⊕ t ≈ z ⊕ (a ⊕ (b ⊕ (c ⊕ t)))
by_threes z a b c t = ring R (z ∷ a ∷ b ∷ c ∷ t ∷ []) (search reads depth 40 fits 4000) none_left

module _ (s : ℕ) (ordering : List ℕ) (volts : List Rectangle) (V : ℕ → C) (held : HoldsVoltages s ordering volts V) (dead : (n : ℕ) → ¬ IsAmong n ordering → V n ≈ nought) (ends : Ends) (h : Order) (ho : Encloses s ends (fraction h))
    (network : Network) (owner node : ℕ) (live : Live network node) (J : ℕ → C) where
  -- the laws of the branches behind the first, and behind a group
  laws_behind : (k : ℕ) (b : Branch) (bs : List Branch) → KeepLaws network h V J k (b ∷ bs) → KeepLaws network h V J (suc k) bs
  laws_behind k b bs laws i o e c = let same_place : k + suc i ≡ suc k + i = omega arith in subst (λ j. KeepsLaw o.law h J j (drop V o.taps)) same_place (laws (suc i) o e c)

  currents_behind : (k : ℕ) (I : ℕ → C) → ((i : ℕ) → J (k + i) ≡ I i) → (i : ℕ) → J (suc k + i) ≡ I (suc i)
  currents_behind k I are i = let same_place : suc k + i ≡ k + suc i = omega arith in ap J same_place ∙ are (suc i)

  inside_behind : (b : Branch) (bs : List Branch) → AreInside network h V J (b ∷ bs) → AreInside network h V J bs
  inside_behind b bs inside x k = inside x (later bs b x k)

  -- the first branch of a group counts for all three
  as_group : (la lb lc ua ub uc : Branch) (ls hs : List Branch) (sum r : Rectangle) (x y w : Option ℕ) → x ≡ Some 0 → y ≡ Some 1 → w ≡ Some 2
      → (with_first s ends ordering volts owner node x sum la (lb ∷ lc ∷ ls) ua (ub ∷ uc ∷ hs) >>= (λ one. with_first s ends ordering volts owner node y one lb (lc ∷ ls) ub (uc ∷ hs)
      >>= (λ two. with_first s ends ordering volts owner node w two lc ls uc hs >>= (λ next. with_all s ends ordering volts owner node next ls hs)))) ≡ Some r
      → (with_group s ends ordering volts owner node sum la lb lc ua ub uc >>= (λ next. with_all s ends ordering volts owner node next ls hs)) ≡ Some r
  as_group la lb lc ua ub uc ls hs sum r x y w ex ey ew m =
      let rest = λ (next : Rectangle). with_all s ends ordering volts owner node next ls hs in
      let third = λ (o : Option ℕ) (two : Rectangle). with_first s ends ordering volts owner node o two lc ls uc hs in
      let second = λ (o : Option ℕ) (one : Rectangle). with_first s ends ordering volts owner node o one lb (lc ∷ ls) ub (uc ∷ hs) in
      let first = λ (o : Option ℕ). with_first s ends ordering volts owner node o sum la (lb ∷ lc ∷ ls) ua (ub ∷ uc ∷ hs) in
      subst (λ o. (first (Some 0) >>= (λ one. second (Some 1) one >>= (λ two. third o two >>= rest))) ≡ Some r) ew
      (subst (λ o. (first (Some 0) >>= (λ one. second o one >>= (λ two. third w two >>= rest))) ≡ Some r) ey
      (subst (λ o. (first o >>= (λ one. second y one >>= (λ two. third w two >>= rest))) ≡ Some r) ex m))

  all_held : (ls hs bs : List Branch) → AllZip BranchUpTo ls bs → AllZip BranchUpTo bs hs → IsGrouped bs → (k : ℕ) → AreInside network h V J bs → KeepLaws network h V J k bs → (I : ℕ → C) → ((i : ℕ) → J (k + i) ≡ I i)
      → (sum r : Rectangle) (z : C) → EnclosesComplex s sum z → with_all s ends ordering volts owner node sum ls hs ≡ Some r → EnclosesComplex s r (z ⊕ terminal_of owner bs I node)
  all_held [] hs L p q done k inside laws I are sum r z has e = subst (λ x. EnclosesComplex s x (z ⊕ nought)) (kept sum r e) (along s sum z (z ⊕ nought) (plus-none z nought (same _)) has)
  all_held (l ∷ ls) hs L p q done k inside laws I are sum r z has e = absurd p
  all_held [] hs L p q (alone b bs u more) k inside laws I are sum r z has e = absurd p
  all_held (l ∷ ls) [] L p q (alone b bs u more) k inside laws I are sum r z has e = absurd q
  all_held (l ∷ ls) (c ∷ hs) L p q (alone b bs u more) k inside laws I are sum r z has e =
      let (after, e1, e2) = bind-some (with_first s ends ordering volts owner node (place_in_group l.law) sum l ls c hs) _ r e in
      let none : J (k + 0) ≡ I 0 = are 0 in
      let one = one_held s ordering volts V held ends h ho network owner node live l c b p.0 q.0 (I 0)
      (λ has y is. subst (λ x. x ≈ y ⊗ drop V b.taps) none (law-current b.law h y J (k + 0) (drop V b.taps) is (laws 0 b refl (itself has))))
      sum after z has (subst (λ o. with_first s ends ordering volts owner node o sum l ls c hs ≡ Some after) (place_alone l b p.0 u) e1) in
      along s r ((z ⊕ owned owner node b (I 0)) ⊕ terminal_of owner bs (λ i. I (suc i)) node) (z ⊕ (owned owner node b (I 0) ⊕ terminal_of owner bs (λ i. I (suc i)) node))
      (regroup z (owned owner node b (I 0)) (terminal_of owner bs (λ i. I (suc i)) node))
      (all_held ls hs bs p.1 q.1 more (suc k) (inside_behind b bs inside) (laws_behind k b bs laws) (λ i. I (suc i)) (currents_behind k I are) after r (z ⊕ owned owner node b (I 0)) one e2)
  all_held [] hs L p q (group a b c bs g apart more) k inside laws I are sum r z has e = absurd p
  all_held (la ∷ []) hs L p q (group a b c bs g apart more) k inside laws I are sum r z has e = absurd p.1
  all_held (la ∷ lb ∷ []) hs L p q (group a b c bs g apart more) k inside laws I are sum r z has e = absurd p.1.1
  all_held (la ∷ lb ∷ lc ∷ ls) [] L p q (group a b c bs g apart more) k inside laws I are sum r z has e = absurd q
  all_held (la ∷ lb ∷ lc ∷ ls) (ua ∷ []) L p q (group a b c bs g apart more) k inside laws I are sum r z has e = absurd q.1
  all_held (la ∷ lb ∷ lc ∷ ls) (ua ∷ ub ∷ []) L p q (group a b c bs g apart more) k inside laws I are sum r z has e = absurd q.1.1
  all_held (la ∷ lb ∷ lc ∷ ls) (ua ∷ ub ∷ uc ∷ hs) L p q (group a b c bs g apart more) k inside laws I are sum r z has e =
      let m = as_group la lb lc ua ub uc ls hs sum r (place_in_group la.law) (place_in_group lb.law) (place_in_group lc.law)
      (place_of_group la a 0 p.0 g.first) (place_of_group lb b 1 p.1.0 g.second) (place_of_group lc c 2 p.1.1.0 g.third) e in
      let (after, e1, e2) = bind-some (with_group s ends ordering volts owner node sum la lb lc ua ub uc) _ r m in
      let three = with_group_held s ordering volts V held dead ends h ho network owner node live J la lb lc ua ub uc a b c p.0 p.1.0 p.1.1.0 q.0 q.1.0 q.1.1.0 g bs k inside laws I are sum after z has e1 in
      let rest = λ (i : ℕ). I (suc (suc (suc i))) in
      along s r ((((z ⊕ owned owner node a (I 0)) ⊕ owned owner node b (I 1)) ⊕ owned owner node c (I 2)) ⊕ terminal_of owner bs rest node)
      (z ⊕ (owned owner node a (I 0) ⊕ (owned owner node b (I 1) ⊕ (owned owner node c (I 2) ⊕ terminal_of owner bs rest node))))
      (by_threes z (owned owner node a (I 0)) (owned owner node b (I 1)) (owned owner node c (I 2)) (terminal_of owner bs rest node))
      (all_held ls hs bs p.1.1.1 q.1.1.1 more (suc (suc (suc k))) (inside_behind c bs (inside_behind b (c ∷ bs) (inside_behind a (b ∷ c ∷ bs) inside)))
      (laws_behind (suc (suc k)) c bs (laws_behind (suc k) b (c ∷ bs) (laws_behind k a (b ∷ c ∷ bs) laws)))
      rest (currents_behind (suc (suc k)) (λ i. I (suc (suc i))) (currents_behind (suc k) (λ i. I (suc i)) (currents_behind k I are))) after r
      (((z ⊕ owned owner node a (I 0)) ⊕ owned owner node b (I 1)) ⊕ owned owner node c (I 2)) three e2)

from_nought : (i : ℕ) → i ≡ 0 + i
from_nought i = omega arith

-- the terminal current of a pair over a box holds that of each network between the two at each order of the box
pub terminal_held : (s : ℕ) (low high : Network) (driven : ℕ) (ordering : List ℕ) → CanAssemble low high driven ordering → (lo hi owner node : ℕ) (volts : List Rectangle) (r : Rectangle) → Live low node
    → terminal_current s low high ordering lo hi owner node volts ≡ Some r → HoldsTerminal s low high ordering lo hi owner node volts r
unfolding terminal_current
terminal_held s low high driven ordering can lo hi owner node volts r l e h i lies network between J state exact held =
    let listed = lists_live network driven ordering between.whole (live_up low network between.from_low driven can.driven_is_live) (order_along low network driven ordering between.from_low can.ordered) in
    along s r (nought ⊕ terminal_of owner network.branches state.current node) (terminal_of owner network.branches state.current node) (plain (terminal_of owner network.branches state.current node))
    (all_held s ordering volts state.voltage held (λ n none. exact.dead n (λ live. none (contains_among n ordering ((listed.live n).0 live)))) (order_ends s lo hi) h (order_encloses s lo hi h i lies)
    network owner node (live_up low network between.from_low node l) state.current low.branches high.branches network.branches between.from_low.branches between.to_high.branches between.whole.groups
    0 (λ b k. k) (λ j b g c. subst (λ n. KeepsLaw b.law h state.current n (drop state.voltage b.taps)) (from_nought j) (exact.laws j b g c)) state.current (λ j. ap state.current (sym (from_nought j)))
    nought_rectangle r nought (nought_held s) e)

-- ---- in the form of the code's clauses
pub current_stated : (s : ℕ) (low high : NetNetwork) (a : Assembled) (ls hs : List NetBranch) (slice : List ℕ) (ends : Ends) (lo hi owner node : ℕ) (volts : List Rectangle) (result : Option Rectangle) → exact_network low ≡ a.low → exact_network high ≡ a.high
    → ls ≡ low.branches → hs ≡ high.branches → slice ≡ a.ordering → ends ≡ order_ends s lo hi → result ≡ with_all s ends slice volts owner node nought_rectangle (map exact_branch ls) (map exact_branch hs)
    → result ≡ terminal_current s a.low a.high a.ordering lo hi owner node volts
unfolding terminal_current
current_stated s low high a ls hs slice ends lo hi owner node volts result ea eb p q f e h = rw (← ea, ← eb, ← p, ← q, ← f, ← e) h

pub current_holds : {X : Type 0} (f : X → Rectangle) (o : Option X) (s : ℕ) (low high : Network) (driven : ℕ) (ordering : List ℕ) → CanAssemble low high driven ordering → (lo hi owner node : ℕ) (volts : List Rectangle) → Live low node
    → option_map f o ≡ terminal_current s low high ordering lo hi owner node volts → IfSome o (λ i. HoldsTerminal s low high ordering lo hi owner node volts (f i))
current_holds f (Some i) s low high driven ordering can lo hi owner node volts l e = terminal_held s low high driven ordering can lo hi owner node volts (f i) l (sym e)
current_holds f None s low high driven ordering can lo hi owner node volts l e = tt
