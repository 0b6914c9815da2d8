-- The element of a number is there.
use Rattle.std.proofs.Common.{◌≡◌, ◌∙◌, ℕ, zero, suc, ◌-◌, ◌<◌, List, [], ◌∷◌, length, refl, ap, sym, arith}
use Rattle.std.specs.Prelude.{slice_get, Option, Some, None}
use Rattle.study_model.specs.Elements.{StudyElement, IsElement, elements_of, element_name}
use Rattle.study_model.specs.declared.records.Study.{Study}
use Rattle.outages_report.specs.Names.{name_in, name_of_element}

not_none : {X : Type 0} (xs : List X) (n : ℕ) → n < length xs → slice_get xs n ≡ None → ⊥
not_none [] n h e = omega (arith, h)
not_none (x ∷ xs) zero h e = absurd cc
not_none (x ∷ xs) (suc n) h e = not_none xs n (omega (arith, h)) e

pub name_is : (study : Study) (number place : ℕ) (name : List ℕ) → IsElement study number → place ≡ number - 1
    → ((element : StudyElement) → slice_get (elements_of study) place ≡ Some element → name ≡ element_name element) → name ≡ name_of_element study number
unfolding name_of_element
name_is study number place name is at named = go (slice_get (elements_of study) place) refl ∙ ap (λ (k : ℕ). name_in (slice_get (elements_of study) k)) at
  where
    go : (o : Option StudyElement) → slice_get (elements_of study) place ≡ o → name ≡ name_in (slice_get (elements_of study) place)
    go None e = absurd (not_none (elements_of study) place (omega (arith, at, is.0, is.1)) e)
    go (Some element) e = named element e ∙ sym (ap name_in e)
