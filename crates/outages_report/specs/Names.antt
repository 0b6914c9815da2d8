-- The name of the element of a number.
use Rattle.std.specs.Prelude.{ℕ, ◌-◌, List, [], Option, Some, None, slice_get}
use Rattle.study_model.specs.Elements.{StudyElement, elements_of, element_name}
use Rattle.study_model.specs.declared.records.Study.{Study}

-- the name of an element that there may be
abbrev pub name_in : Option StudyElement → List ℕ
name_in (Some e) = element_name e
name_in None = []

-- the name of the element of a number, from 1
unfoldable pub name_of_element : Study → ℕ → List ℕ
name_of_element study number = name_in (slice_get (elements_of study) (number - 1))
