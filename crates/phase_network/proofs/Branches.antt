-- What holds of each element of a lawful study holds of its network of three phases.
use Rattle.std.proofs.Common.{◌≡◌, ℕ, zero, suc, ◌+◌, ◌*◌, ◌^◌, ◌≤◌, ◌<◌, ◌∙◌, ◌||◌, true, nat_lt, List, [], ◌∷◌, map, length, slice_get, Some, ap, sym, subst, arith}
use Rattle.std.proofs.lemmas.Bool.Decides.{nat_tests}
use Rattle.std.specs.List.{AllByRecursion}
use Rattle.network_theory.specs.Network.{Network}
use Rattle.net_branch.proofs.Wholes.{each_append, each_weaker}
use Rattle.study_model.specs.Lawful.{IsLawful}
use Rattle.study_model.specs.Elements.{StudyElement, of_source, of_line, of_transformer, of_load, of_bank, of_filter, elements_of}
use Rattle.study_model.specs.declared.records.Study.{Study}
use Rattle.net_branch.specs.declared.limits.TheConstants.{MAX_NODES, MAX_BRANCHES}
use Rattle.net_branch.specs.declared.network.Branch.{Branch as BuiltBranch}
use Rattle.net_branch.specs.declared.network.Network.{Network as BuiltNetwork}
use Rattle.net_branch.specs.Exact.{exact_branch, exact_network}
use Rattle.element_parts.specs.Expansion.{Expansion, with_element, passes_limits}
use Rattle.element_parts.proofs.PlainElements.{each_built}
use Rattle.element_parts.specs.Small.{IsSmallLaw, HaveSmallLaws}
use Rattle.element_parts.proofs.Sound.{IsSound}
use Rattle.element_parts.proofs.GroupedElements.{IsGroupSound, AreGroupSound, alone_sound, sound_within}
use Rattle.line_pi.proofs.PhaseSound.{line_phases_sound}
use Rattle.transformer_model.proofs.PhaseSound.{transformer_phases_sound}
use Rattle.load_filter_model.proofs.Sound.{source_phases_sound, load_phases_sound, bank_phases_sound}
use Rattle.load_filter_model.proofs.Filters.{filter_phases_sound}
use Rattle.sequence_network.specs.Networks.{IsLawfulElement, grown}
use Rattle.sequence_network.proofs.Branches.{elements_lawful}
use Rattle.sequence_network.proofs.Growth.{passing_stays}
use Rattle.phase_network.specs.Phases.{next_group, phases_added, phase_buses, phase_network_of}
use Rattle.phase_network.proofs.Groups.{first_group, groups_bound}

-- an element without groups
plain : (nodes owner first : ℕ) (e : Expansion) → IsSound nodes owner e → AreGroupSound (nodes + e.inner) owner first (first + 64) e.branches
plain nodes owner first e h = alone_sound (nodes + e.inner) owner first (first + 64) e.branches (omega arith) h

-- what an element adds has groups of the next numbers, at most 64 of them
pub element_sound : (study : Study) (n : Network) (owner : ℕ) (e : StudyElement) → IsLawful study → IsLawfulElement study e → 3 * length study.buses ≤ n.nodes
    → AreGroupSound (n.nodes + (phases_added study n e owner).inner) owner (next_group n.branches) (next_group n.branches + 64) (phases_added study n e owner).branches
element_sound study n owner (of_source e) s l b =
    let first = next_group n.branches in
    sound_within _ owner first first (first + 1) (first + 64) _ (omega arith) (omega arith) (source_phases_sound study e owner first n.nodes s l b (first_group n.branches))
element_sound study n owner (of_line e) s l b = line_phases_sound study e owner (next_group n.branches) n.nodes s l b (first_group n.branches)
element_sound study n owner (of_transformer e) s l b = plain n.nodes owner _ _ (transformer_phases_sound study e owner n.nodes s l b)
element_sound study n owner (of_load e) s l b = plain n.nodes owner _ _ (load_phases_sound study e owner n.nodes s l b)
element_sound study n owner (of_bank e) s l b = plain n.nodes owner _ _ (bank_phases_sound study e owner n.nodes s l b)
element_sound study n owner (of_filter e) s l b = plain n.nodes owner _ _ (filter_phases_sound study e owner n.nodes s l b)

with_small : (study : Study) → IsLawful study → (n : Network) (owner : ℕ) (es : List StudyElement) → AllByRecursion (IsLawfulElement study) es → 3 * length study.buses ≤ n.nodes → HaveSmallLaws n.branches
    → HaveSmallLaws (grown (phases_added study) n owner es).branches
with_small study s n owner [] h b p = p
with_small study s n owner (e ∷ es) h b p =
    let x = phases_added study n e owner in
    let small = each_weaker (IsGroupSound (n.nodes + x.inner) owner (next_group n.branches) (next_group n.branches + 64)) (λ o. IsSmallLaw o.law) (λ o k. k.small) x.branches (element_sound study n owner e s h.0 b).each in
    with_small study s (with_element n x) (owner + 1) es h.1 (omega arith) (each_append (λ o. IsSmallLaw o.law) n.branches x.branches p small)

pub network_small : (study : Study) → IsLawful study → HaveSmallLaws (phase_network_of study).branches
unfolding phase_network_of
network_small study s = with_small study s (phase_buses study) 1 (elements_of study) (elements_lawful study s) (omega arith) tt

-- ---- the groups of a network that grows
each_at : {X : Type 0} (P : X → Type 0) (xs : List X) (place : ℕ) (x : X) → AllByRecursion P xs → slice_get xs place ≡ Some x → P x
each_at P [] place x h e = absurd (cc)
each_at P (y ∷ ys) zero x h e = let same : y ≡ x = cc in subst P same h.0
each_at P (y ∷ ys) (suc place) x h e = each_at P ys place x h.1 e

pub groups_more : (study : Study) → IsLawful study → (n m : Network) (place : ℕ) (e : StudyElement) → slice_get (elements_of study) place ≡ Some e → 3 * length study.buses ≤ n.nodes
    → m ≡ with_element n (phases_added study n e (place + 1)) → AllByRecursion (λ b. b.group < 64 * place + 1) n.branches → AllByRecursion (λ b. b.group < 64 * (place + 1) + 1) m.branches
groups_more study s n m place e there b f h =
    let x = phases_added study n e (place + 1) in
    let next = next_group n.branches in
    let most : next ≤ 64 * place + 1 = groups_bound (64 * place + 1) n.branches (omega arith) h in
    let sound = element_sound study n (place + 1) e s (each_at (IsLawfulElement study) (elements_of study) place e (elements_lawful study s) there) b in
    subst (λ (k : Network). AllByRecursion (λ b. b.group < 64 * (place + 1) + 1) k.branches) (sym f)
    (each_append (λ b. b.group < 64 * (place + 1) + 1) n.branches x.branches
    (each_weaker (λ b. b.group < 64 * place + 1) (λ b. b.group < 64 * (place + 1) + 1) (λ b k. omega (arith, k)) n.branches h)
    (each_weaker (IsGroupSound (n.nodes + x.inner) (place + 1) next (next + 64)) (λ b. b.group < 64 * (place + 1) + 1) (λ b k. omega (arith, k.last, most)) x.branches sound.each))

-- the groups' numbers fit
pub groups_fit : (place : ℕ) (bs : List BuiltBranch) → place < 1200 → AllByRecursion (λ b. b.group < 64 * place + 1) (map exact_branch bs) → AllByRecursion (λ b. b.group < 2 ^ 30) bs
groups_fit place bs l h = each_built (λ b. b.group < 64 * place + 1) (λ b. b.group < 2 ^ 30) (λ b k. omega (arith, k, l)) bs h

-- ---- the first network, and its limits
pub start_of : (study : Study) (n : BuiltNetwork) (b : ℕ) → n ≡ record { buses = b; nodes = b; branches = [] } → b ≡ 3 * length study.buses
    → grown (phases_added study) (exact_network n) 1 (elements_of study) ≡ phase_network_of study
unfolding phase_network_of
start_of study n b e h =
    let start : exact_network n ≡ phase_buses study = ap exact_network e ∙ ap (λ (k : ℕ). record { buses = k; nodes = k; branches = [] }) h in
    ap (λ (k : Network). grown (phases_added study) k 1 (elements_of study)) start

pub no_groups : (n : BuiltNetwork) (b : ℕ) → n ≡ record { buses = b; nodes = b; branches = [] } → AllByRecursion (λ b. b.group < 64 * 0 + 1) (exact_network n).branches
no_groups n b e = subst (λ (k : BuiltNetwork). AllByRecursion (λ b. b.group < 64 * 0 + 1) (exact_network k).branches) (sym e) tt

pub too_many_buses : (study : Study) → MAX_NODES < 3 * length study.buses → passes_limits (phase_network_of study) ≡ true
unfolding phase_network_of
too_many_buses study h =
    let some : (nat_lt MAX_NODES (3 * length study.buses) || nat_lt MAX_BRANCHES 0) ≡ true = grind (arith, nat_tests, h) in
    passing_stays (phases_added study) (phase_buses study) 1 (elements_of study) some
