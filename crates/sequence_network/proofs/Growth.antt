-- Networks that grow element by element.
use Rattle.std.proofs.Common.{◌≡◌, ℕ, zero, suc, ◌+◌, ◌≤◌, ◌<◌, ◌∙◌, ◌||◌, true, false, List, [], ◌∷◌, length, drop, nat_lt, slice_get, Some, ap, subst, refl, arith, length-append}
use Rattle.std.proofs.lemmas.Bool.Decides.{nat_tests}
use Rattle.std.proofs.lemmas.List.{length-map}
use Rattle.network_theory.specs.Network.{Network}
use Rattle.element_parts.specs.Expansion.{Expansion, with_element, passes_limits}
use Rattle.net_branch.specs.declared.limits.TheConstants.{MAX_NODES, MAX_BRANCHES}
use Rattle.net_branch.specs.Exact.{exact_network, exact_branch}
use Rattle.net_branch.specs.Whole.{IsWithinLimits}
use Rattle.net_branch.specs.declared.network.Network.{Network as BuiltNetwork}
use Rattle.study_model.specs.declared.words.Sequence.{Sequence}
use Rattle.study_model.specs.declared.records.Study.{Study}
use Rattle.study_model.specs.Elements.{StudyElement, elements_of}
use Rattle.sequence_network.specs.Networks.{grown, with_elements, bus_nodes, network_of}

-- the element at a place, and those after it
pub record IsNext (es : List StudyElement) (place : ℕ) : Type 0 where
  pub element : StudyElement
  pub there : slice_get es place ≡ Some element
  pub rest : drop place es ≡ element ∷ drop (suc place) es

pub next_of : (es : List StudyElement) (place : ℕ) → place < length es → IsNext es place
next_of [] place h = absurd (omega arith)
next_of (e ∷ es) zero h = record { element = e; there = refl; rest = refl }
next_of (e ∷ es) (suc place) h = let n = next_of es place (omega arith) in record { element = n.element; there = n.there; rest = n.rest }

none_left : (es : List StudyElement) (place : ℕ) → length es ≤ place → drop place es ≡ []
none_left [] zero h = refl
none_left [] (suc place) h = refl
none_left (e ∷ es) zero h = absurd (omega arith)
none_left (e ∷ es) (suc place) h = none_left es place (omega arith)

-- what elements add
abbrev Added : Type 0
Added = Network → StudyElement → ℕ → Expansion

-- a network to which the elements from a place on are still to be added, so that it becomes the target
abbrev pub Becomes : Added → List StudyElement → Network → ℕ → Network → Type 0
Becomes added es n place target = grown added n (place + 1) (drop place es) ≡ target

-- the same with the next element
by_next : (added : Added) (es : List StudyElement) (n target : Network) (place : ℕ) (x : IsNext es place) → Becomes added es n place target
    → grown added (with_element n (added n x.element (place + 1))) (place + 1 + 1) (drop (suc place) es) ≡ target
by_next added es n target place x g = subst (λ (l : List StudyElement). grown added n (place + 1) l ≡ target) x.rest g

pub one_more : (added : Added) (es : List StudyElement) (n m target : Network) (place : ℕ) (x : IsNext es place) → m ≡ with_element n (added n x.element (place + 1))
    → Becomes added es n place target → Becomes added es m (place + 1) target
one_more added es n m target place x f g =
    let more : suc place ≡ place + 1 = omega arith in
    subst (λ (k : ℕ). grown added m (place + 1 + 1) (drop k es) ≡ target) more (rw f (by_next added es n target place x g))

-- after the last element
pub all_added : (added : Added) (es : List StudyElement) (n target : Network) (place : ℕ) → length es ≤ place → Becomes added es n place target → n ≡ target
all_added added es n target place h g = subst (λ (l : List StudyElement). grown added n (place + 1) l ≡ target) (none_left es place h) g

-- a network that passes the limits stays so
record IsWithin (n m : Network) : Type 0 where
  nodes : n.nodes ≤ m.nodes
  branches : length n.branches ≤ length m.branches

grows : (added : Added) (n : Network) (owner : ℕ) (xs : List StudyElement) → IsWithin n (grown added n owner xs)
grows added n owner [] = record { nodes = omega arith; branches = omega arith }
grows added n owner (x ∷ xs) =
    let more = grows added (with_element n (added n x owner)) (owner + 1) xs in
    record {
      nodes = omega (arith, more.nodes);
      branches = omega (arith, more.branches, length-append n.branches (added n x owner).branches);
    }

still_passes : (n m : Network) → IsWithin n m → passes_limits n ≡ true → passes_limits m ≡ true
still_passes n m h e = grind (arith, nat_tests, h.nodes, h.branches)

pub passing_stays : (added : Added) (n : Network) (owner : ℕ) (xs : List StudyElement) → passes_limits n ≡ true → passes_limits (grown added n owner xs) ≡ true
passing_stays added n owner xs e = still_passes n (grown added n owner xs) (grows added n owner xs) e

-- an element with which a network passes the limits makes it do so whatever comes after it
pub passing_element : (added : Added) (es : List StudyElement) (n target : Network) (place : ℕ) (x : IsNext es place)
    → passes_limits (with_element n (added n x.element (place + 1))) ≡ true → Becomes added es n place target → passes_limits target ≡ true
passing_element added es n target place x f g =
    subst (λ (k : Network). passes_limits k ≡ true) (by_next added es n target place x g)
    (passing_stays added (with_element n (added n x.element (place + 1))) (place + 1 + 1) (drop (suc place) es) f)

counts_fit : (k b : ℕ) → k ≤ MAX_NODES → b ≤ MAX_BRANCHES → (nat_lt MAX_NODES k || nat_lt MAX_BRANCHES b) ≡ false
counts_fit k b h g = grind (arith, nat_tests)

-- a network with its bus nodes alone, and what is to come
pub start_of : (study : Study) (sequence : Sequence) (n : BuiltNetwork) (b : ℕ) → n ≡ record { buses = b; nodes = b; branches = [] } → b ≡ length study.buses
    → with_elements study sequence (exact_network n) 1 (elements_of study) ≡ network_of study sequence
unfolding network_of
start_of study sequence n b e h =
    let start : exact_network n ≡ bus_nodes study = ap exact_network e ∙ ap (λ (k : ℕ). record { buses = k; nodes = k; branches = [] }) h in
    ap (λ (k : Network). with_elements study sequence k 1 (elements_of study)) start

-- a whole network is within the limits
pub whole_fits : (n : BuiltNetwork) (m : Network) → IsWithinLimits n → exact_network n ≡ m → passes_limits m ≡ false
whole_fits n m h e =
    let nodes = h.nodes in
    let branches : length (exact_network n).branches ≤ MAX_BRANCHES = omega (arith, h.branches, length-map n.branches exact_branch) in
    subst (λ (k : Network). passes_limits k ≡ false) e (counts_fit (exact_network n).nodes (length (exact_network n).branches) nodes branches)
