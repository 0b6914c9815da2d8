-- The driven node of a solver, and its ordering.
use Rattle.std.proofs.Common.{◌≡◌, ◌∙◌, ℕ, zero, suc, ◌+◌, ◌-◌, ◌<◌, Bool, true, false, List, [], ◌∷◌, ◌++◌, get_or, refl, subst, ap, ap₂, arith}
use Rattle.std.specs.Prelude.{IsTrue, ◌==◌, ◌&&◌, not, if◌then◌else◌}
use Rattle.network_theory.specs.Network.{Network, IsWhole}
use Rattle.network_theory.specs.Live.{Live}
use Rattle.network_theory.specs.Reach.{is_live}
use Rattle.network_theory.proofs.Phases.{live_is_node}
use Rattle.network_theory.proofs.Reach.{live_in_rounds}
use Rattle.net_branch.specs.declared.network.Network.{Network as NetNetwork}
use Rattle.net_branch.specs.Exact.{exact_network}
use Rattle.net_branch.specs.LiveNodes.{AreLive}
use Rattle.net_branch.specs.Whole.{IsWholeNetwork}
use Rattle.admittance_box.specs.Places.{live_from, node_ordering, IsNodeOrdering}
use Rattle.distortion_bounds.specs.Solver.{last_in, last_live, solving_order, HasLiveNode}

-- two tests that say the same
same_test : (a b : Bool) → (IsTrue a → IsTrue b) → (IsTrue b → IsTrue a) → a ≡ b
same_test true true f g = refl
same_test true false f g = absurd (let t = f refl in cc)
same_test false true f g = absurd (let t = g refl in cc)
same_test false false f g = refl

-- ---- the ordering
live_from-along : (live other : ℕ → Bool) (driven : ℕ) → ((n : ℕ) → live n ≡ other n) → (from count : ℕ) → live_from live driven from count ≡ live_from other driven from count
live_from-along live other driven e from zero = refl
live_from-along live other driven e from (suc count) =
    ap₂ (λ b (rest : List ℕ). if b && not (from == driven) then from ∷ rest else rest) (e from) (live_from-along live other driven e (suc from) count)

pub ordering_is : (network : Network) (driven : ℕ) (ordering : List ℕ) → IsWhole network → driven ≡ last_live network → IsNodeOrdering network driven ordering → ordering ≡ solving_order network
unfolding solving_order
ordering_is network driven ordering whole e o =
    let rounds = live_in_rounds network whole in
    let along = λ (n : ℕ). same_test (o.live n) (is_live network n) (λ t. (rounds n).1 ((o.right n).0 t)) (λ t. (o.right n).1 ((rounds n).0 t)) in
    o.same
    ∙ ap₂ (λ inner (buses : List ℕ). inner ++ buses ++ driven ∷ []) (live_from-along o.live (is_live network) driven along network.buses (network.nodes - network.buses)) (live_from-along o.live (is_live network) driven along 0 network.buses)
    ∙ ap (λ d. node_ordering network (is_live network) d) e

-- ---- the driven node
last_in-along : (set other : ℕ → Bool) (count : ℕ) → ((n : ℕ) → n < count → set n ≡ other n) → last_in set count ≡ last_in other count
last_in-along set other zero e = refl
last_in-along set other (suc n) e = ap₂ (λ b k. if b then n else k) (e n (omega arith)) (last_in-along set other n (λ m l. e m (omega arith)))

last_in-has : (set : ℕ → Bool) (count n : ℕ) → n < count → IsTrue (set n) → IsTrue (set (last_in set count))
last_in-has set zero n l t = absurd (omega arith)
last_in-has set (suc m) n l t = go (set m) refl (λ k. last_in-has set m n k t)
  where
    go : (b : Bool) → set m ≡ b → (n < m → IsTrue (set (last_in set m))) → IsTrue (set (if b then m else last_in set m))
    go true e more = e
    go false e more = more (let ne : ¬ (n ≡ m) = λ q. (let f : set m ≡ true = subst (λ k. set k ≡ true) q t in cc) in omega (arith, ne))

pub last_live-live : (network : Network) → IsWhole network → HasLiveNode network → Live network (last_live network)
last_live-live network whole some =
    let rounds = live_in_rounds network whole in
    (rounds (last_live network)).0 (last_in-has (is_live network) network.nodes some.node (live_is_node network whole some.node some.live) ((rounds some.node).1 some.live))

pub last_mark : (network : NetNetwork) (marks : List Bool) → IsWholeNetwork network → AreLive network marks → last_in (λ n. get_or marks n false) network.nodes ≡ last_live (exact_network network)
last_mark network marks whole are =
    let rounds = live_in_rounds (exact_network network) whole.exact in
    last_in-along (λ n. get_or marks n false) (is_live (exact_network network)) network.nodes
    (λ n l. same_test (get_or marks n false) (is_live (exact_network network) n) (λ t. (rounds n).1 ((are.each n l).0 t)) (λ t. (are.each n l).1 ((rounds n).0 t)))

-- one number more
pub step_there : (set : ℕ → Bool) (n : ℕ) → set n ≡ true → n ≡ last_in set (n + 1)
step_there set n e = let next : n + 1 ≡ suc n = omega arith in rw (next, e) refl

pub step_past : (set : ℕ → Bool) (n k : ℕ) → set n ≡ false → k ≡ last_in set n → k ≡ last_in set (n + 1)
step_past set n k e h = let next : n + 1 ≡ suc n = omega arith in rw (next, e) h
