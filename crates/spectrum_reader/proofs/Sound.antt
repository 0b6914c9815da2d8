-- What a spectrum that is read meets.
use Rattle.std.proofs.Common.{◌≡◌, sym, refl, subst, arith, ℕ, ◌+◌, ◌<◌, ◌≤◌, Bool, true, false, not, ◌&&◌, bytes_eq, IsSome, IfSome, inl, inr, nat_le, nat_eq, if◌then◌else◌, List, [], ◌∷◌, ◌++◌, length, Option, Some, None, Result, Ok, Err, All, length-append, option_map}
use Rattle.std.specs.List.{list_all, position_from}
use Rattle.std.specs.Char.{is_ascii_digit}
use Rattle.fixed_decimal.specs.Parsed.{number, begins_with}
use Rattle.std.proofs.lemmas.Bool.{and_parts, cases_Bool, or_parts}
use Rattle.std.proofs.lemmas.Bool.Decides.{nat_tests}
use Rattle.std.proofs.lemmas.List.Elements.{All-cons, All-nil, All-push}
use Rattle.std.proofs.lemmas.List.Quantifiers.{all_pairs_push}
use Rattle.study_model.specs.ValueWords.{phase_of}
use Rattle.study_model.specs.declared.words.Phase.{Phase}
use Rattle.study_model.specs.declared.words.Phase.TheVariants as phase
use Rattle.study_model.specs.declared.words.StudyModel.{StudyModel}
use Rattle.study_model.specs.declared.words.StudyModel.TheVariants as study_model
use Rattle.study_model.specs.declared.records.Bus.{Bus}
use Rattle.study_model.specs.declared.records.Study.{Study}
use Rattle.spectrum_reader.specs.declared.injection.Injection.{Injection}
use Rattle.spectrum_reader.specs.declared.fault.SpectrumFault.TheVariants.{BadHeader, Repeated}
use Rattle.spectrum_reader.specs.Records.{Fields, records_of}
use Rattle.spectrum_reader.specs.Rows.{after, after_header, required, rows_from}
use Rattle.spectrum_reader.specs.Fields.{order_of, is_order, bus_named, decimal_in}
use Rattle.spectrum_reader.specs.SpectrumRows.{SpectrumTexts, spectrum_texts, spectrum_names, phase_in, phase_number, is_repeated, injection_of, spectrum_row}
use Rattle.spectrum_reader.specs.SpectrumOf.{spectrum_of}
use Rattle.spectrum_reader.specs.declared.fault.SpectrumFault.{SpectrumFault}
use Rattle.spectrum_reader.specs.Lawful.{IsPhaseOf, IsLawfulInjection, AreAtOnePlace, IsLawfulSpectrum}

needed : {A B F : Type 0} (o : Option A) (fault : F) (more : A → Result B F) (value : B) → required o fault more ≡ Ok value → (x : A) × (o ≡ Some x) × (more x ≡ Ok value)
needed None fault more value e = absurd (cc e)
needed (Some x) fault more value e = (x, refl, e)

went_on : {A B F : Type 0} (r : Result A F) (more : A → Result B F) (value : B) → after r more ≡ Ok value → (x : A) × (r ≡ Ok x) × (more x ≡ Ok value)
went_on (Err fault) more value e = absurd (cc e)
went_on (Ok x) more value e = (x, refl, e)

within : (n : ℕ) → (nat_le 2 n && nat_le n 50) ≡ true → (2 ≤ n) × (n ≤ 50)
within n h = let both = and_parts (nat_le 2 n) (nat_le n 50) h in (grind (arith, nat_tests, both.0), grind (arith, nat_tests, both.1))

order_in : (text : List ℕ) (n : ℕ) → (if is_order text then Some (number text) else None) ≡ Some n → (2 ≤ n) × (n ≤ 50)
order_in text n e = elim (cases_Bool (is_order text)) [
  | inl is ↦
      let same : number text ≡ n = (let h = rw is at e in cc h) in
      let (front, high) = and_parts (list_all is_ascii_digit text && nat_le (length text) 2 && not (begins_with 48 text) && nat_le 2 (number text)) (nat_le (number text) 50) is in
      let low = (and_parts (list_all is_ascii_digit text && nat_le (length text) 2 && not (begins_with 48 text)) (nat_le 2 (number text)) front).1 in
      subst (λ m. (2 ≤ m) × (m ≤ 50)) same (grind (arith, nat_tests), grind (arith, nat_tests))
  | inr isn ↦ let h = rw isn at e in absurd (cc h)
]

order_within : (text : List ℕ) (n : ℕ) → order_of text ≡ Some n → (2 ≤ n) × (n ≤ 50)
unfolding order_of
order_within text n e = order_in text n e

at_place : {X : Type 0} (test : X → Bool) (i n : ℕ) (xs : List X) → position_from test i xs ≡ Some n → n < i + length xs
at_place test i n [] e = absurd (cc e)
at_place test i n (x ∷ xs) e = elim (cases_Bool (test x)) [
  | inl is ↦ let same : i ≡ n = (let h = rw is at e in cc h) in omega (arith, same)
  | inr isn ↦ omega (arith, at_place test (i + 1) n xs (rw isn at e))
]

bus_within : (buses : List Bus) (name : List ℕ) (n : ℕ) → bus_named buses name ≡ Some n → n < length buses
unfolding bus_named
bus_within buses name n e = omega (arith, at_place (λ bus. bytes_eq bus.name name) 0 n buses e)

number_within : (p : Phase) → phase_number p ≤ 2
number_within phase.A = omega arith
number_within phase.B = omega arith
number_within phase.C = omega arith

some_phase : (p : Option Phase) (n : ℕ) → option_map phase_number p ≡ Some n → n ≤ 2
some_phase None n e = absurd (cc e)
some_phase (Some p) n e = let same : phase_number p ≡ n = cc e in omega (arith, number_within p, same)

-- which phase the texts of each model have
abbrev HasTextsOf : StudyModel → Option (List ℕ) → Type 0
HasTextsOf study_model.Sequence text = text ≡ None
HasTextsOf study_model.Phases text = IsSome text

has_texts : (model : StudyModel) (fields : Fields) → IfSome (spectrum_texts model fields) (λ texts. HasTextsOf model texts.phase)
unfolding spectrum_texts
has_texts study_model.Sequence [] = tt
has_texts study_model.Sequence (a ∷ []) = tt
has_texts study_model.Sequence (a ∷ b ∷ []) = tt
has_texts study_model.Sequence (a ∷ b ∷ c ∷ []) = tt
has_texts study_model.Sequence (a ∷ b ∷ c ∷ d ∷ []) = refl
has_texts study_model.Sequence (a ∷ b ∷ c ∷ d ∷ e ∷ fields) = tt
has_texts study_model.Phases [] = tt
has_texts study_model.Phases (a ∷ []) = tt
has_texts study_model.Phases (a ∷ b ∷ []) = tt
has_texts study_model.Phases (a ∷ b ∷ c ∷ []) = tt
has_texts study_model.Phases (a ∷ b ∷ c ∷ d ∷ []) = tt
has_texts study_model.Phases (a ∷ b ∷ c ∷ d ∷ e ∷ []) = refl
has_texts study_model.Phases (a ∷ b ∷ c ∷ d ∷ e ∷ f ∷ fields) = tt

phase_in_model : (model : StudyModel) (text : Option (List ℕ)) (n : ℕ) → HasTextsOf model text → phase_in text ≡ Some n → IsPhaseOf model n
unfolding phase_in
phase_in_model study_model.Sequence None n has e = sym (cc e)
phase_in_model study_model.Sequence (Some text) n has e = absurd (cc has)
phase_in_model study_model.Phases None n has e = absurd (cc has)
phase_in_model study_model.Phases (Some text) n has e = some_phase (phase_of text) n e

phase_within : (model : StudyModel) (fields : Fields) (texts : SpectrumTexts) (n : ℕ) → spectrum_texts model fields ≡ Some texts → phase_in texts.phase ≡ Some n → IsPhaseOf model n
phase_within model fields texts n e p = phase_in_model model texts.phase n (rw e at (has_texts model fields)) p

eq_self : (n : ℕ) → nat_eq n n ≡ true
eq_self n = grind (arith, nat_tests)

same_place : (a b c x y z : ℕ) → (nat_eq a x && (nat_eq b y && nat_eq c z)) ≡ false → ¬ ((a ≡ x) × (b ≡ y) × (c ≡ z))
same_place a b c x y z e at =
    let same : (nat_eq a x && (nat_eq b y && nat_eq c z)) ≡ true = rw (at.0, at.1, at.2, eq_self x, eq_self y, eq_self z) refl in
    absurd (cc (e, same))

differs : (order bus phase : ℕ) (earlier : List Injection) → is_repeated earlier order bus phase ≡ false
    → All (λ a. ¬ ((a.order ≡ order) × (a.bus ≡ bus) × (a.phase ≡ phase))) earlier
differs order bus phase [] e = All-nil (λ a. ¬ ((a.order ≡ order) × (a.bus ≡ bus) × (a.phase ≡ phase)))
differs order bus phase (a ∷ rest) e =
    let parts = or_parts (nat_eq a.order order && (nat_eq a.bus bus && nat_eq a.phase phase)) (is_repeated rest order bus phase) e in
    All-cons (λ a. ¬ ((a.order ≡ order) × (a.bus ≡ bus) × (a.phase ≡ phase))) a rest (same_place a.order a.bus a.phase order bus phase parts.0) (differs order bus phase rest parts.1)

-- a row that is read is lawful beside those before it
record IsLawfulNext (study : Study) (earlier : List Injection) (row : Injection) : Type 0 where
  few : length earlier + 1 ≤ 10000
  each : IsLawfulInjection study row
  apart : All (λ a. ¬ (AreAtOnePlace a row)) earlier

-- the last step of a row
made : (study : Study) (earlier : List Injection) (fault : SpectrumFault) (given row : Injection) → length earlier + 1 ≤ 10000 → IsLawfulInjection study given
    → (if is_repeated earlier given.order given.bus given.phase then Err fault else Ok given) ≡ Ok row → IsLawfulNext study earlier row
made study earlier fault given row few lawful e = elim (cases_Bool (is_repeated earlier given.order given.bus given.phase)) [
  | inl is ↦ let h = rw is at e in absurd (cc h)
  | inr isn ↦
      let same : given ≡ row = (let h = rw isn at e in cc h) in
      subst (IsLawfulNext study earlier) same (record { few = few; each = lawful; apart = differs given.order given.bus given.phase earlier isn })
]

numbered : {A : Type 0} (n : ℕ) (o : Option A) (x : A) → (if nat_le n 10000 then o else None) ≡ Some x → (n ≤ 10000) × (o ≡ Some x)
numbered n o x e = elim (cases_Bool (nat_le n 10000)) [
  | inl is ↦ (grind (arith, nat_tests), rw is at e)
  | inr isn ↦ let h = rw isn at e in absurd (cc h)
]

lawful_next : (study : Study) (earlier : List Injection) (fields : Fields) (row : Injection) → spectrum_row study earlier fields ≡ Ok row → IsLawfulNext study earlier row
unfolding spectrum_row injection_of
lawful_next study earlier fields row e =
    let n = length earlier + 1 in
    let (texts, at_texts, e1) = needed _ _ _ row e in
    let (few, given) = numbered n (spectrum_texts study.model fields) texts at_texts in
    let (order, at_order, e2) = needed (order_of texts.order) _ _ row e1 in
    let (bus, at_bus, e3) = needed (bus_named study.buses texts.bus) _ _ row e2 in
    let (phase, at_phase, e4) = needed (phase_in texts.phase) _ _ row e3 in
    let (re, at_re, e5) = needed (decimal_in texts.re) _ _ row e4 in
    let (im, at_im, e6) = needed (decimal_in texts.im) _ _ row e5 in
    made study earlier (Repeated n) (record { order = order; bus = bus; phase = phase; re = re; im = im }) row few
    (record { order = order_within texts.order order at_order; bus = bus_within study.buses texts.bus bus at_bus; phase = phase_within study.model fields texts phase given at_phase }) e6

pushed : (study : Study) (earlier : List Injection) (row : Injection) → IsLawfulSpectrum study earlier → IsLawfulNext study earlier row → IsLawfulSpectrum study (earlier ++ row ∷ [])
pushed study earlier row lawful next = record {
  few = omega (arith, length-append earlier (row ∷ []), next.few);
  each = All-push (IsLawfulInjection study) earlier row lawful.each next.each;
  apart = all_pairs_push (λ a b. ¬ (AreAtOnePlace a b)) earlier row lawful.apart next.apart;
}

lawful_rows : (study : Study) (earlier : List Injection) (records : List Fields) (rows : List Injection) → IsLawfulSpectrum study earlier
    → rows_from (spectrum_row study) earlier records ≡ Ok rows → IsLawfulSpectrum study rows
lawful_rows study earlier [] rows lawful e = let same : earlier ≡ rows = cc e in subst (IsLawfulSpectrum study) same lawful
lawful_rows study earlier (fields ∷ rest) rows lawful e =
    let (row, at_row, more) = went_on (spectrum_row study earlier fields) _ rows e in
    lawful_rows study (earlier ++ row ∷ []) rest rows (pushed study earlier row lawful (lawful_next study earlier fields row at_row)) more

none_lawful : (study : Study) → IsLawfulSpectrum study []
none_lawful study = record { few = omega arith; each = All-nil (IsLawfulInjection study); apart = λ i j d less within. absurd (omega (arith, within)) }

-- a spectrum that is read is lawful
pub lawful_spectrum : (study : Study) (bytes : List ℕ) (rows : List Injection) → spectrum_of study bytes ≡ Ok rows → IsLawfulSpectrum study rows
unfolding spectrum_of
lawful_spectrum study bytes rows e =
    let (rest, at_rest, more) = needed (after_header (spectrum_names study.model) (records_of bytes)) BadHeader _ rows e in
    lawful_rows study [] rest rows (none_lawful study) more
