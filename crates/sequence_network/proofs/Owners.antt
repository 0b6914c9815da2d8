-- Whose the branches of a network are that grows element by element.
use Rattle.std.proofs.Common.{◌≡◌, ◌≢◌, ◌∙◌, ℕ, zero, suc, ◌+◌, ◌≤◌, ◌<◌, ◌==◌, true, false, List, [], ◌∷◌, ◌++◌, length, take, slice_get, Some, refl, ap, sym, subst, arith, append-nil}
use Rattle.std.proofs.lemmas.Bool.Decides.{nat_tests}
use Rattle.std.proofs.lemmas.List.Elements.{filter-append}
use Rattle.std.specs.List.{AllByRecursion}
use Rattle.network_theory.specs.Branch.{Branch}
use Rattle.network_theory.specs.Network.{Network}
use Rattle.net_branch.proofs.Wholes.{each_append, each_weaker}
use Rattle.study_model.specs.Lawful.{IsLawful}
use Rattle.study_model.specs.Elements.{StudyElement, elements_of}
use Rattle.study_model.specs.declared.words.Sequence.{Sequence}
use Rattle.study_model.specs.declared.records.Study.{Study}
use Rattle.element_parts.specs.Expansion.{Expansion, with_element}
use Rattle.element_parts.proofs.Sound.{IsSoundBranch}
use Rattle.sequence_network.specs.Networks.{IsLawfulElement, expansion_of, grown, added_to, bus_nodes, network_of}
use Rattle.sequence_network.specs.Owners.{owned_by, OwnTheirBranches}
use Rattle.sequence_network.proofs.Branches.{element_sound, elements_lawful}

-- branches of one owner
abbrev pub AreOf : ℕ → List Branch → Type 0
AreOf owner bs = AllByRecursion (λ b. b.owner ≡ owner) bs

-- are all its own
its_own : (owner k : ℕ) → k ≡ owner → (bs : List Branch) → AreOf owner bs → owned_by k bs ≡ bs
its_own owner k e [] h = refl
its_own owner k e (b ∷ bs) h =
    let own : (b.owner == k) ≡ true = grind (arith, nat_tests, h.0) in
    rw (own, its_own owner k e bs h.1) refl

-- and none is another's
anothers : (owner k : ℕ) → k ≢ owner → (bs : List Branch) → AreOf owner bs → owned_by k bs ≡ []
anothers owner k d [] h = refl
anothers owner k d (b ∷ bs) h =
    let other : (b.owner == k) ≡ false = grind (arith, nat_tests, h.0) in
    rw other (anothers owner k d bs h.1)

-- branches before those of another owner
passed : (owner k : ℕ) → k ≢ owner → (xs bs : List Branch) → AreOf owner bs → owned_by k (xs ++ bs) ≡ owned_by k xs
passed owner k d xs bs h = filter-append (λ b. b.owner == k) xs bs ∙ ap (λ (l : List Branch). owned_by k xs ++ l) (anothers owner k d bs h) ∙ append-nil (owned_by k xs)

-- ---- elements of a network
abbrev Added : Type 0
Added = Network → StudyElement → ℕ → Expansion

-- an element adds branches of its number alone, to whatever network that has at least so many nodes
abbrev pub AddsItsOwn : Added → ℕ → StudyElement → Type 0
AddsItsOwn added floor e = (n : Network) (owner : ℕ) → floor ≤ n.nodes → AreOf owner (added n e owner).branches

-- further elements add nothing to an earlier one's branches
later : (added : Added) (floor k : ℕ) (n : Network) (owner : ℕ) (es : List StudyElement) → AllByRecursion (AddsItsOwn added floor) es → floor ≤ n.nodes → k < owner
    → owned_by k (grown added n owner es).branches ≡ owned_by k n.branches
later added floor k n owner [] h b l = refl
later added floor k n owner (e ∷ es) h b l =
    let x = added n e owner in
    later added floor k (with_element n x) (owner + 1) es h.1 (omega arith) (omega arith) ∙ passed owner k (λ same. omega (arith, same)) n.branches x.branches (h.0 n owner b)

-- the branches of the element at a place
at_place : (added : Added) (floor k : ℕ) (n : Network) (owner : ℕ) (es : List StudyElement) (place : ℕ) (e : StudyElement) → AllByRecursion (AddsItsOwn added floor) es
    → floor ≤ n.nodes → k ≡ owner + place → slice_get es place ≡ Some e
    → owned_by k (grown added n owner es).branches ≡ owned_by k n.branches ++ (added (grown added n owner (take place es)) e k).branches
at_place added floor k n owner [] place e h b m f = absurd (cc)
at_place added floor k n owner (y ∷ es) zero e h b m f =
    let same : k ≡ owner = omega (arith, m) in
    let there : y ≡ e = cc in
    let x = added n y owner in
    later added floor k (with_element n x) (owner + 1) es h.1 (omega arith) (omega (arith, same))
    ∙ filter-append (λ b. b.owner == k) n.branches x.branches
    ∙ ap (λ (l : List Branch). owned_by k n.branches ++ l) (its_own owner k same x.branches (h.0 n owner b) ∙ ap (λ (z : StudyElement). (added n z owner).branches) there)
    ∙ ap (λ (o : ℕ). owned_by k n.branches ++ (added n e o).branches) (sym same)
at_place added floor k n owner (y ∷ es) (suc place) e h b m f =
    let x = added n y owner in
    at_place added floor k (with_element n x) (owner + 1) es place e h.1 (omega arith) (omega (arith, m)) f
    ∙ ap (λ (l : List Branch). l ++ (added (grown added (with_element n x) (owner + 1) (take place es)) e k).branches) (passed owner k (λ same. omega (arith, same, m)) n.branches x.branches (h.0 n owner b))

-- each branch has the number of an element
numbered : (added : Added) (floor last : ℕ) (n : Network) (owner : ℕ) (es : List StudyElement) → AllByRecursion (AddsItsOwn added floor) es → floor ≤ n.nodes → 1 ≤ owner → owner + length es ≤ last + 1
    → AllByRecursion (λ b. (1 ≤ b.owner) × (b.owner ≤ last)) n.branches → AllByRecursion (λ b. (1 ≤ b.owner) × (b.owner ≤ last)) (grown added n owner es).branches
numbered added floor last n owner [] h b f l p = p
numbered added floor last n owner (e ∷ es) h b f l p =
    let x = added n e owner in
    numbered added floor last (with_element n x) (owner + 1) es h.1 (omega arith) (omega arith) (omega arith)
    (each_append (λ b. (1 ≤ b.owner) × (b.owner ≤ last)) n.branches x.branches p
    (each_weaker (λ b. b.owner ≡ owner) (λ b. (1 ≤ b.owner) × (b.owner ≤ last)) (λ b o. (omega (arith, o), omega (arith, o))) x.branches (h.0 n owner b)))

pub grown_owned : (added : Added) (floor : ℕ) (start : Network) (es : List StudyElement) → AllByRecursion (AddsItsOwn added floor) es → floor ≤ start.nodes → start.branches ≡ []
    → OwnTheirBranches added start es (grown added start 1 es)
grown_owned added floor start es h b none = record {
  each = λ place e f. at_place added floor (place + 1) start 1 es place e h b (omega arith) f ∙ ap (λ (bs : List Branch). owned_by (place + 1) bs ++ (added (grown added start 1 (take place es)) e (place + 1)).branches) none;
  others = numbered added floor (length es) start 1 es h b (omega arith) (omega arith) (subst (AllByRecursion (λ b. (1 ≤ b.owner) × (b.owner ≤ length es))) (sym none) tt);
}

-- ---- a sequence network
adds_its_own : (study : Study) (sequence : Sequence) → IsLawful study → (e : StudyElement) → IsLawfulElement study e → AddsItsOwn (added_to study sequence) (length study.buses) e
adds_its_own study sequence s e l n owner b =
    let x = expansion_of study sequence n.nodes e owner in
    each_weaker (IsSoundBranch (n.nodes + x.inner) owner) (λ o. o.owner ≡ owner) (λ o k. k.owner) x.branches (element_sound study sequence n.nodes owner e s l b)

pub network_owned : (study : Study) (sequence : Sequence) → IsLawful study → OwnTheirBranches (added_to study sequence) (bus_nodes study) (elements_of study) (network_of study sequence)
unfolding network_of
network_owned study sequence s =
    grown_owned (added_to study sequence) (length study.buses) (bus_nodes study) (elements_of study)
    (each_weaker (IsLawfulElement study) (AddsItsOwn (added_to study sequence) (length study.buses)) (adds_its_own study sequence s) (elements_of study) (elements_lawful study s)) (omega arith) refl
