-- The fields of a record by their places.
use Rattle.std.proofs.Common.{◌≡◌, ◌∙◌, ap, sym, arith, refl, ℕ, zero, suc, ◌+◌, List, [], ◌∷◌, ◌&&◌, Option, Some, None, Bool, false, drop, is_none, length}
use Rattle.std.specs.Str.{bytes_eq}
use Rattle.csv.specs.Records.{field_at}
use Rattle.study_model.specs.declared.words.StudyModel.TheVariants as study_model
use Rattle.spectrum_reader.specs.Records.{Fields}
use Rattle.spectrum_reader.specs.Rows.{is_header}
use Rattle.spectrum_reader.specs.SpectrumRows.{SpectrumTexts, spectrum_texts}
use Rattle.spectrum_reader.specs.LevelRows.{LevelTexts, level_texts}

-- no names are there at a place where no field is
pub no_names : (fields : Fields) (place : ℕ) → is_header [] (drop place fields) ≡ is_none (field_at fields place)
unfolding field_at
no_names [] zero = refl
no_names [] (suc place) = refl
no_names (f ∷ fs) zero = refl
no_names (f ∷ fs) (suc place) = no_names fs place

pub at_none : (names : List (List ℕ)) (fields : Fields) (place : ℕ) (field : Option (List ℕ)) → length names ≡ 0 → field ≡ field_at fields place
    → is_none field ≡ is_header names (drop place fields)
at_none [] fields place field none is = ap is_none is ∙ sym (no_names fields place)
at_none (name ∷ names) fields place field none is = absurd (omega (arith, none))

-- a name and others are there where the field is the name and others follow
abbrev pub named_field : List ℕ → List (List ℕ) → Fields → Option (List ℕ) → Bool
named_field name names rest None = false
named_field name names rest (Some field) = bytes_eq name field && is_header names rest

pub more_names : (name : List ℕ) (names : List (List ℕ)) (fields : Fields) (place : ℕ)
    → is_header (name ∷ names) (drop place fields) ≡ named_field name names (drop (place + 1) fields) (field_at fields place)
unfolding field_at
more_names name names [] zero = refl
more_names name names [] (suc place) = refl
more_names name names (f ∷ fs) zero = refl
more_names name names (f ∷ fs) (suc place) =
    let same : suc place + 1 ≡ suc (place + 1) = omega arith in
    more_names name names fs place ∙ ap (λ n. named_field name names (drop n (f ∷ fs)) (field_at fs place)) (sym same)

pub ruleset header_steps = (no_names, more_names)

-- the texts of four fields, and no fifth
abbrev pub texts_of_four : Option (List ℕ) → Option (List ℕ) → Option (List ℕ) → Option (List ℕ) → Option (List ℕ) → Option SpectrumTexts
texts_of_four (Some a) (Some b) (Some c) (Some d) None = Some (record { order = a; bus = b; phase = None; re = c; im = d })
texts_of_four _ _ _ _ _ = None

pub four_fields : (fields : Fields) → spectrum_texts study_model.Sequence fields ≡ texts_of_four (field_at fields 0) (field_at fields 1) (field_at fields 2) (field_at fields 3) (field_at fields 4)
unfolding field_at spectrum_texts
four_fields [] = refl
four_fields (a ∷ []) = refl
four_fields (a ∷ b ∷ []) = refl
four_fields (a ∷ b ∷ c ∷ []) = refl
four_fields (a ∷ b ∷ c ∷ d ∷ []) = refl
four_fields (a ∷ b ∷ c ∷ d ∷ e ∷ fs) = refl

-- the texts of five fields, and no sixth
abbrev pub texts_of_five : Option (List ℕ) → Option (List ℕ) → Option (List ℕ) → Option (List ℕ) → Option (List ℕ) → Option (List ℕ) → Option SpectrumTexts
texts_of_five (Some a) (Some b) (Some p) (Some c) (Some d) None = Some (record { order = a; bus = b; phase = Some p; re = c; im = d })
texts_of_five _ _ _ _ _ _ = None

pub five_fields : (fields : Fields) → spectrum_texts study_model.Phases fields ≡ texts_of_five (field_at fields 0) (field_at fields 1) (field_at fields 2) (field_at fields 3) (field_at fields 4) (field_at fields 5)
unfolding field_at spectrum_texts
five_fields [] = refl
five_fields (a ∷ []) = refl
five_fields (a ∷ b ∷ []) = refl
five_fields (a ∷ b ∷ c ∷ []) = refl
five_fields (a ∷ b ∷ c ∷ d ∷ []) = refl
five_fields (a ∷ b ∷ c ∷ d ∷ e ∷ []) = refl
five_fields (a ∷ b ∷ c ∷ d ∷ e ∷ f ∷ fs) = refl

-- the texts of three fields, and no fourth
abbrev pub texts_of_three : Option (List ℕ) → Option (List ℕ) → Option (List ℕ) → Option (List ℕ) → Option LevelTexts
texts_of_three (Some a) (Some b) (Some c) None = Some (record { bus = a; order = b; percent = c })
texts_of_three _ _ _ _ = None

pub three_fields : (fields : Fields) → level_texts fields ≡ texts_of_three (field_at fields 0) (field_at fields 1) (field_at fields 2) (field_at fields 3)
unfolding field_at level_texts
three_fields [] = refl
three_fields (a ∷ []) = refl
three_fields (a ∷ b ∷ []) = refl
three_fields (a ∷ b ∷ c ∷ []) = refl
three_fields (a ∷ b ∷ c ∷ d ∷ fs) = refl
