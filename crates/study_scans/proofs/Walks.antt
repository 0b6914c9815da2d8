-- What a walk of a band was made of.
use Rattle.std.proofs.Common.{◌≡◌, ◌<◌, ◌∙◌, Bool, true, false, ℕ, zero, suc, List, [], ◌∷◌, length, get_or, ap, sym, subst, refl, arith}
use Rattle.std.specs.Prelude.{if◌then◌else◌, Result, Ok, Err, IfOk}
use Rattle.exact_algebra.specs.Ratio.{Ratio}
use Rattle.network_theory.specs.Between.{IsPair}
use Rattle.network_theory.specs.Live.{Live}
use Rattle.network_theory.specs.Network.{Network, IsWhole}
use Rattle.network_theory.specs.Reach.{is_live}
use Rattle.network_theory.proofs.More.{between_itself}
use Rattle.network_theory.proofs.Reach.{live_in_rounds}
use Rattle.net_branch.specs.Exact.{exact_network}
use Rattle.net_branch.specs.LiveNodes.{AreLive}
use Rattle.net_branch.specs.Whole.{IsWholeNetwork}
use Rattle.net_branch.specs.declared.network.Network.{Network as BuiltNetwork}
use Rattle.band_subdivision.specs.Boxes.{BoxTest}
use Rattle.band_subdivision.specs.PairTest.{pair_test}
use Rattle.band_subdivision.specs.Parts.{nowhere}
use Rattle.band_subdivision.specs.Scan.{Scanning, IsScanOf}
use Rattle.band_subdivision.specs.ScanSpec.{asked_of, nothing}
use Rattle.band_subdivision.specs.Unfed.{IsUnfed}
use Rattle.band_subdivision.specs.declared.scan_spec.ScanSpec.{ScanSpec}
use Rattle.study_model.specs.declared.records.ScanItem.{ScanItem}
use Rattle.study_model.specs.declared.records.Study.{Study}
use Rattle.study_networks.specs.Scanned.{scanned_network, scanned_node}
use Rattle.study_scans.specs.Scan.{spec_of, ordering_of, live_test, test_over, test_of, boxes_by, boxes_for}
use Rattle.study_scans.specs.Walk.{IsWalkBy, IsWalkOver, IsWalkOf}
use Rattle.study_scans.proofs.NodeOrderings.{order_is}

-- what is read at a place within a list doesn't hang on what stands for none
any_none : (marks : List Bool) (n : ℕ) (d e : Bool) → n < length marks → get_or marks n d ≡ get_or marks n e
any_none [] n d e inside = absurd (omega (arith, inside))
any_none (m ∷ marks) zero d e inside = refl
any_none (m ∷ marks) (suc n) d e inside = any_none marks n d e (omega arith)

read_at : (network : BuiltNetwork) (marks : List Bool) (n : ℕ) (mark value : Bool) → AreLive network marks → n < network.nodes → mark ≡ get_or marks n mark → mark ≡ value → get_or marks n false ≡ value
read_at network marks n mark value are inside there is = any_none marks n false mark (omega (arith, inside, are.count)) ∙ sym there ∙ is

-- a node that is marked
pub marked : (network : BuiltNetwork) (marks : List Bool) (n : ℕ) (mark : Bool) → AreLive network marks → n < network.nodes → mark ≡ get_or marks n mark → mark ≡ true → Live (exact_network network) n
marked network marks n mark are inside there is = (are.each n inside).0 (read_at network marks n mark true are inside there is)

-- one that isn't
pub unmarked : (network : BuiltNetwork) (marks : List Bool) (n : ℕ) (mark : Bool) → IsWholeNetwork network → AreLive network marks → n < network.nodes → mark ≡ get_or marks n mark → mark ≡ false
    → is_live (exact_network network) n ≡ false
unmarked network marks n mark whole are inside there is = go (is_live (exact_network network) n) refl
  where
    go : (t : Bool) → is_live (exact_network network) n ≡ t → t ≡ false
    go false h = refl
    go true h =
        let live : get_or marks n false ≡ true = (are.each n inside).1 ((live_in_rounds (exact_network network) whole.exact n).0 h) in
        sym live ∙ read_at network marks n mark false are inside there is

-- ---- the two walks
-- a new walk at a live node
live_walk : (scale : ℕ) (spec : ScanSpec) (low high : Network) (node : ℕ) (walk : Scanning) → IsWhole low → Live low node → IsScanOf scale low high node spec walk → IsWalkOver scale spec low high node walk
live_walk scale spec low high node walk whole live made =
    let fed : is_live low node ≡ true = (live_in_rounds low whole node).1 live in
    let ordering : walk.ordering ≡ ordering_of low node = order_is low node walk.ordering whole made.ready.ordered in
    let plain : pair_test scale (asked_of walk.spec) walk.low walk.high walk.ordering nothing ≡ test_over scale spec low high node
    = ap (λ (x : ScanSpec). pair_test scale (asked_of x) walk.low walk.high walk.ordering nothing) made.same_spec
    ∙ ap (λ (x : Network). pair_test scale (asked_of spec) x walk.high walk.ordering nothing) made.from_low
    ∙ ap (λ (x : Network). pair_test scale (asked_of spec) low x walk.ordering nothing) made.to_high
    ∙ ap (λ (x : List ℕ). pair_test scale (asked_of spec) low high x nothing) ordering
    ∙ ap (λ (t : Bool). if t then live_test scale spec low high node else nowhere) (sym fed) in
    record {
      asked = made.same_spec;
      tests = ap (λ (e : Ratio). pair_test scale (asked_of walk.spec) walk.low walk.high walk.ordering e) made.no_extra ∙ plain;
      left = made.left ∙ ap (λ (t : BoxTest). boxes_by t walk.spec) plain ∙ ap (boxes_by (test_over scale spec low high node)) made.same_spec;
    }

-- and one at a node that isn't live
unfed_walk : (scale : ℕ) (spec : ScanSpec) (low high : Network) (node : ℕ) (walk : Scanning) → is_live low node ≡ false → IsUnfed scale spec walk → IsWalkOver scale spec low high node walk
unfed_walk scale spec low high node walk dead made =
    let none : nowhere ≡ test_over scale spec low high node = ap (λ (t : Bool). if t then live_test scale spec low high node else nowhere) (sym dead) in
    record { asked = made.same_spec; tests = made.test walk.extra ∙ none; left = made.left ∙ ap (λ (t : BoxTest). boxes_by t spec) none }

-- so of a walk that there may be
pub live_walks : {F : Type 0} (scale : ℕ) (spec : ScanSpec) (low high : Network) (node : ℕ) (r : Result Scanning F) → IsWhole low → Live low node → IfOk r (λ walk. IsScanOf scale low high node spec walk)
    → IfOk r (IsWalkOver scale spec low high node)
live_walks scale spec low high node (Ok walk) whole live made = live_walk scale spec low high node walk whole live made
live_walks scale spec low high node (Err fault) whole live made = tt

pub unfed_walks : {F : Type 0} (scale : ℕ) (spec : ScanSpec) (low high : Network) (node : ℕ) (r : Result Scanning F) → is_live low node ≡ false → IfOk r (λ walk. IsUnfed scale spec walk)
    → IfOk r (IsWalkOver scale spec low high node)
unfed_walks scale spec low high node (Ok walk) dead made = unfed_walk scale spec low high node walk dead made
unfed_walks scale spec low high node (Err fault) dead made = tt

-- ---- the walk of a scan of a study
-- a network and itself are a pair
pub pair_of_one : (network : BuiltNetwork) → IsWholeNetwork network → IsPair (exact_network network) (exact_network network)
pair_of_one network whole = (between_itself (exact_network network) whole.exact).from_low

-- the walk of its network by what it asks
pub walks_of : {F : Type 0} (study : Study) (scan : ScanItem) (scale : ℕ) (spec : ScanSpec) (network : Network) (node : ℕ) (r : Result Scanning F) → scale ≡ study.scale → spec ≡ spec_of study scan
    → network ≡ scanned_network study scan → node ≡ scanned_node scan → IfOk r (IsWalkOver scale spec network network node) → IfOk r (IsWalkOf study scan)
unfolding test_of
walks_of {F} study scan scale spec network node r e asked is at made =
    let Walks : ℕ → ScanSpec → Network → ℕ → Type 0 = λ s x n k. IfOk r (IsWalkOver s x n n k) in
    subst (λ (s : ℕ). Walks s (spec_of study scan) (scanned_network study scan) (scanned_node scan)) e
    (subst (λ (x : ScanSpec). Walks scale x (scanned_network study scan) (scanned_node scan)) asked
    (subst (λ (n : Network). Walks scale spec n (scanned_node scan)) is
    (subst (λ (k : ℕ). Walks scale spec network k) at made)))

-- it has the boxes of the scan before it
pub walk_boxes : (tests : ScanItem → BoxTest) (study : Study) (scan : ScanItem) (walk : Scanning) → IsWalkBy study.scale (spec_of study scan) (tests scan) walk → walk.left ≡ boxes_for tests study scan
unfolding boxes_for
walk_boxes tests study scan walk is = is.left
