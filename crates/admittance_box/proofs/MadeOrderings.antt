-- The node ordering that an assembly makes.
use Rattle.std.proofs.Common.{◌≡◌, ◌≢◌, ◌∙◌, ℕ, zero, suc, ◌+◌, ◌-◌, ◌<◌, ◌≤◌, Bool, true, false, List, [], ◌∷◌, ◌++◌, length, map, get_or, refl, sym, subst, arith, length-append, ◌⊎◌, inl, inr}
use Rattle.std.proofs.lemmas.List.{get_or_past}
use Rattle.std.specs.Prelude.{IsTrue, ◌&&◌, ◌==◌, not, if◌then◌else◌}
use Rattle.network_theory.specs.Live.{Live}
use Rattle.network_theory.proofs.Phases.{live_is_node}
use Rattle.network_theory.specs.Between.{IsPair}
use Rattle.network_theory.proofs.Bridge.{length-map}
use Rattle.net_branch.specs.declared.network.Branch.{Branch as NetBranch}
use Rattle.net_branch.specs.declared.network.Network.{Network as NetNetwork}
use Rattle.net_branch.specs.Exact.{exact_network, exact_branch}
use Rattle.net_branch.specs.LiveNodes.{AreLive}
use Rattle.net_branch.specs.Whole.{IsWholeNetwork}
use Rattle.admittance_box.specs.Addends.{Addend, addends_between}
use Rattle.admittance_box.specs.Assembled.{IsMade, IsKept}
use Rattle.admittance_box.specs.HeldMatrix.{CanAssemble}
use Rattle.admittance_box.specs.Places.{live_from, node_ordering, IsNodeOrdering}
use Rattle.admittance_box.proofs.NodeOrderings.{below_or}

module _ (live : ℕ → Bool) (driven : ℕ) where
  count_go : (from count : ℕ) (rest : List ℕ) → length rest ≤ count → (t : Bool) → length (if t then from ∷ rest else rest) ≤ suc count
  count_go from count rest h true = omega arith
  count_go from count rest h false = omega arith

  -- at most as many as there are
  count_from : (from count : ℕ) → length (live_from live driven from count) ≤ count
  count_from from zero = omega arith
  count_from from (suc count) = count_go from count (live_from live driven (suc from) count) (count_from (suc from) count) (live from && not (from == driven))

  less_go : (from count : ℕ) (rest : List ℕ) → length rest ≤ count → (driven ≢ from → length rest < count) → (t u : Bool) → (from == driven) ≡ u → length (if t && not u then from ∷ rest else rest) < suc count
  less_go from count rest h more true true e = omega arith
  less_go from count rest h more true false e = let k : length rest < count = more (λ q. grind arith) in omega arith
  less_go from count rest h more false u e = omega arith

  -- and less where the driven one is among them
  count_less : (from count : ℕ) → from ≤ driven → driven < from + count → length (live_from live driven from count) < count
  count_less from zero a b = absurd (omega arith)
  count_less from (suc count) a b = less_go from count (live_from live driven (suc from) count) (count_from (suc from) count) (λ ne. count_less (suc from) count (omega arith) (omega arith)) (live from) (from == driven) refl

  node_order-count : (buses nodes : ℕ) → buses ≤ nodes → driven < nodes → length (live_from live driven buses (nodes - buses) ++ live_from live driven 0 buses ++ driven ∷ []) ≤ nodes
  node_order-count buses nodes h l =
      let inner = live_from live driven buses (nodes - buses) in
      let bus = live_from live driven 0 buses in
      let a = count_from buses (nodes - buses) in
      let b = count_from 0 buses in
      let count = length-append (inner ++ bus) (driven ∷ []) in
      let more = length-append inner bus in
      elim (below_or driven buses) [
        | inl k ↦ let c = count_less 0 buses (omega arith) (omega arith) in omega arith
        | inr k ↦ let c = count_less buses (nodes - buses) k (omega arith) in omega arith
      ]

-- of a network in which the driven node is live, there are at most as many as nodes
pub order_count : (network : NetNetwork) (driven : ℕ) (ordering : List ℕ) → IsWholeNetwork network → Live (exact_network network) driven → IsNodeOrdering (exact_network network) driven ordering → length ordering ≤ network.nodes
order_count network driven ordering w l o =
    subst (λ xs. length xs ≤ network.nodes) (sym o.same) (node_order-count o.live driven network.buses network.nodes w.exact.buses (live_is_node (exact_network network) w.exact driven l))

-- by the marks of live nodes
pub made_order : (network : NetNetwork) (driven : ℕ) (marks slice : List Bool) (ordering : List ℕ) → IsWholeNetwork network → AreLive network marks → slice ≡ marks
    → ordering ≡ node_ordering (exact_network network) (λ n. get_or slice n false) driven → IsNodeOrdering (exact_network network) driven ordering
made_order network driven marks slice ordering w a e o = record { live = λ n. get_or marks n false; right = right; same = subst (λ s. ordering ≡ node_ordering (exact_network network) (λ n. get_or s n false) driven) e o }
  where
    right : (n : ℕ) → (IsTrue (get_or marks n false) → Live (exact_network network) n) × (Live (exact_network network) n → IsTrue (get_or marks n false))
    right n = go (below_or n network.nodes)
      where
        go : (n < network.nodes) ⊎ (network.nodes ≤ n) → (IsTrue (get_or marks n false) → Live (exact_network network) n) × (Live (exact_network network) n → IsTrue (get_or marks n false))
        go (inl h) = a.each n h
        go (inr h) = (
          λ t. absurd (let past : get_or marks n false ≡ false = get_or_past marks n false (let c = a.count in omega arith) in cc),
          λ l. absurd (let below = live_is_node (exact_network network) w.exact n l in omega arith),
        )

-- networks with their node ordering are ready for an assembly
pub ready_by : (low high : NetNetwork) (driven : ℕ) (marks slice : List Bool) (ordering : List ℕ) → IsWholeNetwork low → IsPair (exact_network low) (exact_network high) → Live (exact_network low) driven
    → AreLive low marks → slice ≡ marks → ordering ≡ node_ordering (exact_network low) (λ n. get_or slice n false) driven → CanAssemble (exact_network low) (exact_network high) driven ordering
ready_by low high driven marks slice ordering w p l a e o = record { pair = p; driven_is_live = l; ordered = made_order low driven marks slice ordering w a e o }

-- what an assembly of copies keeps
pub kept_by : (s : ℕ) (low high low' high' : NetNetwork) (driven : ℕ) (ordering ordering' : List ℕ) (ls hs : List NetBranch) (addends : List Addend) → low' ≡ low → high' ≡ high → ordering' ≡ ordering → ls ≡ low.branches → hs ≡ high.branches → IsWholeNetwork low
    → CanAssemble (exact_network low) (exact_network high) driven ordering → addends ≡ addends_between s ordering' (map exact_branch ls) (map exact_branch hs)
    → IsKept s (record { low = exact_network low'; high = exact_network high'; driven = driven; ordering = ordering }) addends
kept_by s low high low' high' driven ordering ordering' ls hs addends e f o p q w can same =
    rw (e, f)
    (record {
      whole = w.exact;
      ready = can;
      few_nodes = let few = order_count low driven ordering w can.driven_is_live can.ordered in let limit = w.limits.nodes in omega arith;
      few_branches = let limit = w.limits.branches in let count = length-map exact_branch low.branches in omega arith;
      same = same ∙ rw (o, p, q) refl;
    })

-- and what contracts see of it
pub made_by : (low high low' high' : NetNetwork) (driven : ℕ) (ordering : List ℕ) → low' ≡ low → high' ≡ high → CanAssemble (exact_network low) (exact_network high) driven ordering
    → IsMade (exact_network low) (exact_network high) driven (record { low = exact_network low'; high = exact_network high'; driven = driven; ordering = ordering })
made_by low high low' high' driven ordering e f can = rw (e, f) (record { from_low = refl; to_high = refl; at = refl; ready = can })
