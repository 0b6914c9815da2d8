-- What holds of each element of a lawful study holds of its networks.
use Rattle.std.proofs.Common.{ℕ, suc, ◌+◌, ◌≤◌, List, [], ◌∷◌, map, length, arith}
use Rattle.std.specs.Prelude.{All}
use Rattle.std.specs.List.{AllByRecursion}
use Rattle.network_theory.specs.Branch.{Branch}
use Rattle.network_theory.specs.Network.{Network, IsUncoupled}
use Rattle.net_branch.proofs.Wholes.{each_append, each_weaker}
use Rattle.study_model.specs.Lawful.{IsLawful, IsLawfulSource, IsLawfulLine, IsLawfulTransformer, IsLawfulLoad, IsLawfulBank, IsLawfulFilter}
use Rattle.study_model.specs.Elements.{StudyElement, of_source, of_line, of_transformer, of_load, of_bank, of_filter, elements_of}
use Rattle.study_model.specs.declared.words.Sequence.{Sequence}
use Rattle.study_model.specs.declared.records.Study.{Study}
use Rattle.element_parts.specs.Expansion.{with_element}
use Rattle.element_parts.specs.Small.{IsSmallLaw, HaveSmallLaws}
use Rattle.element_parts.proofs.Sound.{IsSoundBranch, IsSound, is_uncoupled}
use Rattle.line_pi.proofs.Sound.{line_sound}
use Rattle.transformer_model.proofs.Sound.{transformer_sound}
use Rattle.load_filter_model.proofs.Sound.{source_sound, load_sound, bank_sound}
use Rattle.load_filter_model.proofs.Filters.{filter_sound}
use Rattle.sequence_network.specs.Networks.{IsLawfulElement, expansion_of, with_elements, bus_nodes, network_of}

pub element_sound : (study : Study) (sequence : Sequence) (next owner : ℕ) (e : StudyElement) → IsLawful study → IsLawfulElement study e → length study.buses ≤ next
    → IsSound next owner (expansion_of study sequence next e owner)
element_sound study sequence next owner (of_source e) s l n = source_sound study e owner sequence next s l n
element_sound study sequence next owner (of_line e) s l n = line_sound study e owner sequence next s l n
element_sound study sequence next owner (of_transformer e) s l n = transformer_sound study e owner sequence next s l n
element_sound study sequence next owner (of_load e) s l n = load_sound study e owner sequence next s l n
element_sound study sequence next owner (of_bank e) s l n = bank_sound study e owner sequence next s l n
element_sound study sequence next owner (of_filter e) s l n = filter_sound study e owner sequence next s l n

section : {A : Type 0} (study : Study) (of : A → StudyElement) (P : A → Type 0) → ((x : A) → P x → IsLawfulElement study (of x)) → (xs : List A) → All P xs
    → AllByRecursion (IsLawfulElement study) (map of xs)
section study of P f [] h = tt
section study of P f (x ∷ xs) h = (f x (h 0 x (omega arith)), section study of P f xs (λ k d l. h (suc k) d (omega arith)))

pub elements_lawful : (study : Study) → IsLawful study → AllByRecursion (IsLawfulElement study) (elements_of study)
elements_lawful study s =
    let lawful = IsLawfulElement study in
    each_append lawful (map of_source study.sources) _ (section study of_source (IsLawfulSource study.buses) (λ x h. h) study.sources s.sources)
    (each_append lawful (map of_line study.lines) _ (section study of_line (IsLawfulLine study.model study.buses) (λ x h. h) study.lines s.lines)
    (each_append lawful (map of_transformer study.transformers) _ (section study of_transformer (IsLawfulTransformer study.buses) (λ x h. h) study.transformers s.transformers)
    (each_append lawful (map of_load study.loads) _ (section study of_load (IsLawfulLoad study.model study.buses) (λ x h. h) study.loads s.loads)
    (each_append lawful (map of_bank study.banks) _ (section study of_bank (IsLawfulBank study.model study.buses) (λ x h. h) study.banks s.banks)
    (section study of_filter (IsLawfulFilter study.model study.buses) (λ x h. h) study.filters s.filters)))))

-- what is known of each branch of a network
pub record IsStudyBranch (b : Branch) : Type 0 where
  pub uncoupled : IsUncoupled b
  pub small : IsSmallLaw b.law

of_sound : (nodes owner : ℕ) (b : Branch) → IsSoundBranch nodes owner b → IsStudyBranch b
of_sound nodes owner b s = record { uncoupled = is_uncoupled nodes owner b s; small = s.law.small }

with_each : (study : Study) (sequence : Sequence) → IsLawful study → (n : Network) (owner : ℕ) (es : List StudyElement) → AllByRecursion (IsLawfulElement study) es → length study.buses ≤ n.nodes
    → AllByRecursion IsStudyBranch n.branches → AllByRecursion IsStudyBranch (with_elements study sequence n owner es).branches
with_each study sequence s n owner [] h b p = p
with_each study sequence s n owner (e ∷ es) h b p =
    let added = expansion_of study sequence n.nodes e owner in
    let new = each_weaker (IsSoundBranch (n.nodes + added.inner) owner) IsStudyBranch (of_sound (n.nodes + added.inner) owner) added.branches (element_sound study sequence n.nodes owner e s h.0 b) in
    with_each study sequence s (with_element n added) (owner + 1) es h.1 (omega arith) (each_append IsStudyBranch n.branches added.branches p new)

pub network_branches : (study : Study) (sequence : Sequence) → IsLawful study → AllByRecursion IsStudyBranch (network_of study sequence).branches
unfolding network_of
network_branches study sequence s = with_each study sequence s (bus_nodes study) 1 (elements_of study) (elements_lawful study s) (omega arith) tt

pub network_uncoupled : (study : Study) (sequence : Sequence) → IsLawful study → AllByRecursion IsUncoupled (network_of study sequence).branches
network_uncoupled study sequence s = each_weaker IsStudyBranch IsUncoupled (λ b h. h.uncoupled) _ (network_branches study sequence s)

pub network_small : (study : Study) (sequence : Sequence) → IsLawful study → HaveSmallLaws (network_of study sequence).branches
network_small study sequence s = each_weaker IsStudyBranch (λ b. IsSmallLaw b.law) (λ b h. h.small) _ (network_branches study sequence s)
