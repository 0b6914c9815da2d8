-- The elements of a plant, section by section.
use Rattle.std.proofs.Common.{◌≡◌, ◌+◌, ◌++◌, map, List, ℕ, [], ◌∷◌, length, refl, ap, append_assoc, length-append}
use Rattle.std.proofs.Math.Nat.{add_assoc}
use Rattle.std.proofs.lemmas.List.{map-append, length-map}
use Rattle.study_model.specs.Elements.{StudyElement}
use Rattle.study_model.specs.declared.records.Source.{Source}
use Rattle.study_model.specs.declared.records.Line.{Line}
use Rattle.study_model.specs.declared.records.Transformer.{Transformer}
use Rattle.study_model.specs.declared.records.Load.{Load}
use Rattle.study_model.specs.declared.records.Bank.{Bank}
use Rattle.study_model.specs.declared.records.Filter.{Filter}
use Rattle.study_reader.specs.Lawful.{names_in}
use Rattle.study_reader.specs.StudyOf.{plant_elements, ends_of}
use Rattle.study_reader.specs.declared.study.Plant.{Plant}

-- six lists, seen one after another behind a list
six : {A B : Type 0} (f : A → B) (old : List B) (a b c d e g : List A)
    → old ++ map f a ++ map f b ++ map f c ++ map f d ++ map f e ++ map f g ≡ old ++ map f (a ++ (b ++ (c ++ (d ++ (e ++ g)))))
six f old a b c d e g = simp (map-append, append_assoc)

-- six sections of elements, pushed one after another
pub pushed : (a b c d e g : List StudyElement)
    → [] ++ map ends_of a ++ map ends_of b ++ map ends_of c ++ map ends_of d ++ map ends_of e ++ map ends_of g ≡ map ends_of (a ++ (b ++ (c ++ (d ++ (e ++ g)))))
pushed a b c d e g = six ends_of [] a b c d e g

map_map : {A B C : Type 0} (f : B → C) (g : A → B) (xs : List A) → map f (map g xs) ≡ map (λ (x : A). f (g x)) xs
map_map {A} {B} {C} f g [] = refl
map_map {A} {B} {C} f g (x ∷ xs) = ap (λ (ys : List C). f (g x) ∷ ys) (map_map f g xs)

-- the names of the sections of a plant, one section after another
pub named : (old : List (List ℕ)) (p : Plant)
    → old ++ map (λ (e : Source). e.name) p.sources ++ map (λ (e : Line). e.name) p.lines ++ map (λ (e : Transformer). e.name) p.transformers
    ++ map (λ (e : Load). e.name) p.loads ++ map (λ (e : Bank). e.name) p.banks ++ map (λ (e : Filter). e.name) p.filters ≡ old ++ names_in p
named old p = simp (map-append, map_map, append_assoc)

-- how many elements a plant has
pub counted : (p : Plant) → length (plant_elements p) ≡ length p.sources + length p.lines + length p.transformers + length p.loads + length p.banks + length p.filters
unfolding plant_elements
counted p = simp (length-append, length-map, add_assoc)

pub ruleset element_steps = (pushed)
