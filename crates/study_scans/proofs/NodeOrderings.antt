-- A network and a driven node have one node ordering, which rounds over its branches find.
use Rattle.std.proofs.Common.{◌≡◌, ◌∙◌, ℕ, zero, suc, ◌-◌, Bool, true, false, ◌&&◌, not, ◌==◌, List, [], ◌∷◌, ◌++◌, refl, ap, sym}
use Rattle.std.specs.Prelude.{if◌then◌else◌}
use Rattle.network_theory.specs.Network.{Network, IsWhole}
use Rattle.network_theory.specs.Reach.{is_live}
use Rattle.network_theory.proofs.Reach.{live_in_rounds}
use Rattle.admittance_box.specs.Places.{live_from, node_ordering, IsNodeOrdering}
use Rattle.study_scans.specs.Scan.{ordering_of}

same_test : (a b : Bool) → (a ≡ true → b ≡ true) → (b ≡ true → a ≡ true) → a ≡ b
same_test true true f g = refl
same_test true false f g = absurd (cc (f refl))
same_test false true f g = absurd (cc (g refl))
same_test false false f g = refl

abbrev AreSame : (ℕ → Bool) → (ℕ → Bool) → Type 0
AreSame s t = (n : ℕ) → s n ≡ t n

same_from : (s t : ℕ → Bool) (driven from count : ℕ) → AreSame s t → live_from s driven from count ≡ live_from t driven from count
same_from s t driven from zero h = refl
same_from s t driven from (suc count) h =
    let rest : live_from s driven (suc from) count ≡ live_from t driven (suc from) count = same_from s t driven (suc from) count h in
    ap (λ (b : Bool). if b && not (from == driven) then from ∷ live_from s driven (suc from) count else live_from s driven (suc from) count) (h from)
    ∙ ap (λ (l : List ℕ). if t from && not (from == driven) then from ∷ l else l) rest

same_order : (network : Network) (s t : ℕ → Bool) (driven : ℕ) → AreSame s t → node_ordering network s driven ≡ node_ordering network t driven
same_order network s t driven h =
    ap (λ (l : List ℕ). l ++ live_from s driven 0 network.buses ++ driven ∷ []) (same_from s t driven network.buses (network.nodes - network.buses) h)
    ∙ ap (λ (l : List ℕ). live_from t driven network.buses (network.nodes - network.buses) ++ l ++ driven ∷ []) (same_from s t driven 0 network.buses h)

one_order : (network : Network) (driven : ℕ) (o p : List ℕ) → IsNodeOrdering network driven o → IsNodeOrdering network driven p → o ≡ p
one_order network driven o p a b =
    a.same ∙ same_order network a.live b.live driven (λ n. same_test (a.live n) (b.live n) (λ e. (b.right n).1 ((a.right n).0 e)) (λ e. (a.right n).1 ((b.right n).0 e))) ∙ sym b.same

pub found_order : (network : Network) (driven : ℕ) → IsWhole network → IsNodeOrdering network driven (ordering_of network driven)
found_order network driven whole = record { live = is_live network; right = live_in_rounds network whole; same = refl }

-- every node ordering is the one that is found
pub order_is : (network : Network) (driven : ℕ) (o : List ℕ) → IsWhole network → IsNodeOrdering network driven o → o ≡ ordering_of network driven
order_is network driven o whole a = one_order network driven o (ordering_of network driven) a (found_order network driven whole)
