-- Why bytes are refused.
use Rattle.std.proofs.Common.{◌≡◌, ℕ, List, Some, None, ap, sym, ◌∙◌, subst, refl}
use Rattle.toml.specs.Data.{Members, table}
use Rattle.study_model.specs.declared.fault.StudyFault.{StudyFault}
use Rattle.study_model.specs.declared.records.Study.{Study}
use Rattle.study_reader.specs.StudyOf.{HasTable, Refused, no_table, first, IsStudy, study_fault, study_value}

-- bytes have one table
one_table : (bytes : List ℕ) (ms ms' : Members) → HasTable bytes ms → HasTable bytes ms' → ms ≡ ms'
one_table bytes ms ms' h k = let p = h.1 in let q = k.1 in cc (p, q)

-- bytes that are two studies are one
pub same_study : (bytes : List ℕ) (s t : Study) → IsStudy bytes s → IsStudy bytes t → s ≡ t
same_study bytes s t h k = h.is ∙ ap (λ (m : Members). study_value (table m)) (one_table bytes h.ms k.ms h.given k.given) ∙ sym k.is

-- bytes that are a study are not refused
pub not_refused : (bytes : List ℕ) (s : Study) (f : StudyFault) → IsStudy bytes s → Refused bytes f → ⊥
not_refused bytes s _ i (no_table none) = none i.ms i.given
not_refused bytes s _ i (first ms fault has e) =
    let same : ms ≡ i.ms = one_table bytes ms i.ms has i.given in
    let sound : study_fault i.ms ≡ None = i.sound in
    let moved : study_fault i.ms ≡ Some fault = subst (λ (m : Members). study_fault m ≡ Some fault) same e in cc

-- one table has one first fault
one_fault : (ms ms' : Members) (f g : StudyFault) → ms ≡ ms' → study_fault ms ≡ Some f → study_fault ms' ≡ Some g → f ≡ g
one_fault ms ms' f g same e d =
    let moved : study_fault ms' ≡ Some f = subst (λ (m : Members). study_fault m ≡ Some f) same e in cc

-- bytes are refused for one fault
pub same_refusal : (bytes : List ℕ) (f g : StudyFault) → Refused bytes f → Refused bytes g → f ≡ g
same_refusal bytes _ _ (no_table none) (no_table other) = refl
same_refusal bytes _ _ (no_table none) (first ms fault has e) = absurd (none ms has)
same_refusal bytes _ _ (first ms fault has e) (no_table none) = absurd (none ms has)
same_refusal bytes _ _ (first ms fault has e) (first ms' fault' has' e') = one_fault ms ms' fault fault' (one_table bytes ms ms' has has') e e'
