-- Candidates, tolerances and outages whose checks find no fault.
use Rattle.std.proofs.Common.{◌≡◌, ◌≢◌, ◌≤◌, ◌<◌, ◌+◌, ◌-◌, ◌++◌, ⊎_elim, ℕ, ℤ, pos, suc, Bool, true, false, not, ◌&&◌, ◌||◌, if◌then◌else◌, nat_eq, nat_le, map, List, [], ◌∷◌, Option, Some, None, length, refl, arith, subst, All, AllPairs, IsSomeAnd, slice_get, bytes_eq, append_assoc}
use Rattle.std.specs.Prelude.{is_some, unwrap_or, int_le}
use Rattle.std.specs.List.{list_any}
use Rattle.std.proofs.lemmas.Bool.{and_parts}
use Rattle.std.proofs.lemmas.Bool.Decides.{nat_tests}
use Rattle.std.proofs.lemmas.List.{append-nil, map-append}
use Rattle.std.proofs.lemmas.List.Elements.{All-cons, All-nil}
use Rattle.std.proofs.lemmas.List.Quantifiers.{all_pairs_push}
use Rattle.toml.specs.Data.{Data, Items, no_items, item, string, integer, float, boolean, datetime, array, table}
use Rattle.study_model.specs.NameText.{is_name}
use Rattle.study_model.specs.Range.{IsIn}
use Rattle.study_model.specs.Lawful.{IsOfPositive, IsPositiveScan}
use Rattle.study_model.specs.declared.fault.Place.{Place}
use Rattle.study_model.specs.declared.fault.Section.{Section}
use Rattle.study_model.specs.declared.fault.Section.TheVariants as section
use Rattle.study_model.specs.declared.fault.Key.TheVariants as key
use Rattle.study_model.specs.declared.fault.StudyFault.{StudyFault}
use Rattle.study_model.specs.declared.fault.StudyFault.TheVariants.{OutOfRange, BadName, UnknownElement}
use Rattle.study_model.specs.declared.limits.TheConstants.{MAX_CANDIDATES, MAX_SIZES, MAX_TOLERANCES, MAX_PERMILLE, MAX_OUTAGES}
use Rattle.study_model.specs.declared.range.TheConstants.Range.{ABOVE_ZERO}
use Rattle.study_model.specs.declared.records.ScanItem.{ScanItem}
use Rattle.study_model.specs.declared.records.Candidate.{Candidate}
use Rattle.study_model.specs.declared.records.Tolerance.{Tolerance}
use Rattle.study_model.specs.declared.records.Outage.{Outage}
use Rattle.study_model.specs.declared.words.Phase.{Phase}
use Rattle.study_model.specs.declared.words.Sequence.{Sequence}
use Rattle.study_model.specs.declared.words.Sequence.TheVariants as sequence
use Rattle.study_model.specs.declared.words.StudyModel.{StudyModel}
use Rattle.study_model.specs.declared.words.StudyModel.TheVariants as study_model
use Rattle.study_reader.specs.Checks.{unless, key_of, place_of, at, text_in, whole_in, keys_fault, decimal_check, decimal_in}
use Rattle.study_reader.specs.Groups.{in_phases}
use Rattle.study_reader.specs.Curves.{items_fault, length_fault, decimals_found, decimals_fault}
use Rattle.study_reader.specs.Sections.{count_items, array_fault, items_in, section_in, entries_of, section_value}
use Rattle.study_reader.specs.References.{named_at, named_found, named_fault, named_value, repeated_fault, scan_at, scan_of, is_positive, positive_fault, scan_found, scan_fault, scan_value, references_fault, reference_section_fault}
use Rattle.study_reader.specs.Variants.{decimals_in, sizes_value, candidate_keys, candidate_entry_fault, candidate_entry, model_found, model_fault, permille_found, permille_fault, permille_value, has_tolerance, tolerance_keys, tolerance_entry_fault, tolerance_entry, has_outage, outage_keys, outage_entry_fault, outage_entry}
use Rattle.study_reader.specs.Lawful.{IsNumbered, IsReadCandidate, IsReadTolerance, IsReadOutage, AreLawfulVariants}
use Rattle.study_reader.specs.StudyOf.{at_most, variants_fault, variants_value}
use Rattle.study_reader.specs.declared.arrays.Occurrence.{Occurrence}
use Rattle.study_reader.specs.declared.context.Element.{Element}
use Rattle.study_reader.specs.declared.reference.Targets.{Targets}
use Rattle.study_reader.proofs.Fresh.{some_of}
use Rattle.study_reader.proofs.Sound.{no_fault, passed, at_most_of, checked, counted, branch}
use Rattle.study_reader.proofs.SoundArrays.{few_of, array_sound, items_counted}

-- ---- an element by its name
named_within : (n : ℕ) (es : List Element) (text : List ℕ) (m : ℕ) → named_at n es text ≡ Some m → (n ≤ m) × (m < n + length es)
named_within n [] text m e = absurd (cc)
named_within n (x ∷ xs) text m e =
    ⊎_elim (λ head. let same = head.1 in (omega (arith, same), omega (arith, same)))
    (λ rest. let h = named_within (n + 1) xs text m rest in let least = h.0 in let most = h.1 in (omega (arith, least), omega (arith, most)))
    (some_of (bytes_eq x.name text) n m (named_at (n + 1) xs text) e)

some_number : (elements : List Element) (o : Option ℕ) → ((m : ℕ) → o ≡ Some m → (1 ≤ m) × (m < 1 + length elements)) → is_some o ≡ true → IsNumbered elements (unwrap_or o 0)
some_number elements None h e = absurd (cc)
some_number elements (Some m) h e = let p = h m refl in let most = p.1 in record { least = p.0; most = omega (arith, most) }

text_numbered : (place : Place) (elements : List Element) (o : Option Data) → named_found place elements o ≡ None → IsNumbered elements (unwrap_or (named_at 1 elements (text_in o)) 0)
text_numbered place elements None e = absurd (cc)
text_numbered place elements (Some (string text)) e =
    let b = branch (is_name text) (unless (is_some (named_at 1 elements text)) (UnknownElement place)) (BadName place) e in
    some_number elements (named_at 1 elements text) (λ m same. named_within 1 elements text m same) (passed (is_some (named_at 1 elements text)) (UnknownElement place) b.1)
text_numbered place elements (Some (integer n)) e = absurd (cc)
text_numbered place elements (Some (float x)) e = absurd (cc)
text_numbered place elements (Some (boolean b)) e = absurd (cc)
text_numbered place elements (Some (datetime t)) e = absurd (cc)
text_numbered place elements (Some (array ds)) e = absurd (cc)
text_numbered place elements (Some (table ms)) e = absurd (cc)

named_sound : (place : Place) (elements : List Element) (d : Data) → named_fault place elements d ≡ None → IsNumbered elements (named_value elements d)
unfolding named_fault named_value
named_sound place elements d e = text_numbered (key_of place key.Element) elements (at key.Element d) e

-- ---- a scan by its name
-- the number of a scan of the positive network, from a number on
abbrev IsFound : ℕ → List ScanItem → Option ℕ → Type 0
IsFound n scans None = ⊥
IsFound n scans (Some m) = (n ≤ m) × IsSomeAnd (slice_get scans (m - n)) IsOfPositive

positive_of : (network : Sequence) → is_positive network ≡ true → network ≡ sequence.Positive
positive_of sequence.Positive e = refl
positive_of sequence.Zero e = absurd (cc)

no_phase : (phase : Option Phase) → not (is_some phase) ≡ true → phase ≡ None
no_phase None e = refl
no_phase (Some phase) e = absurd (cc)

of_positive : (place : Place) (scan : ScanItem) → positive_fault place (Some scan) ≡ None → IsOfPositive scan
of_positive place scan e =
    let both = and_parts (is_positive scan.network) (not (is_some scan.phase)) (passed (is_positive scan.network && not (is_some scan.phase)) (OutOfRange place) e) in
    (positive_of scan.network both.0, no_phase scan.phase both.1)

at_head : (n : ℕ) (s : ScanItem) (ss : List ScanItem) → IsOfPositive s → IsFound n (s ∷ ss) (Some n)
at_head n s ss h =
    let none : 0 ≡ n - n = omega arith in
    (omega arith, subst (λ (k : ℕ). IsSomeAnd (slice_get (s ∷ ss) k) IsOfPositive) none h)

behind : (n : ℕ) (s : ScanItem) (ss : List ScanItem) (o : Option ℕ) → IsFound (n + 1) ss o → IsFound n (s ∷ ss) o
behind n s ss None h = h
behind n s ss (Some m) h =
    let less : n + 1 ≤ m = h.0 in
    let one : suc (m - (n + 1)) ≡ m - n = omega (arith, less) in
    (omega (arith, less), subst (λ (k : ℕ). IsSomeAnd (slice_get (s ∷ ss) k) IsOfPositive) one h.1)

scan_step : (same : Bool) (place : Place) (n : ℕ) (s : ScanItem) (ss : List ScanItem) (rest : Option ScanItem) (o : Option ℕ) → (positive_fault place rest ≡ None → IsFound (n + 1) ss o)
    → positive_fault place (if same then Some s else rest) ≡ None → IsFound n (s ∷ ss) (if same then Some n else o)
scan_step true place n s ss rest o more e = at_head n s ss (of_positive place s e)
scan_step false place n s ss rest o more e = behind n s ss o (more e)

scan_within : (place : Place) (n : ℕ) (scans : List ScanItem) (text : List ℕ) → positive_fault place (scan_of scans text) ≡ None → IsFound n scans (scan_at n scans text)
scan_within place n [] text e = absurd (cc)
scan_within place n (s ∷ ss) text e =
    scan_step (bytes_eq s.name text) place n s ss (scan_of ss text) (scan_at (n + 1) ss text) (λ rest. scan_within place (n + 1) ss text rest) e

found_scan : (scans : List ScanItem) (o : Option ℕ) → IsFound 1 scans o → IsPositiveScan scans (unwrap_or o 0)
found_scan scans None h = absurd h
found_scan scans (Some m) h = h

text_scan : (place : Place) (scans : List ScanItem) (o : Option Data) → scan_found place scans o ≡ None → IsPositiveScan scans (unwrap_or (scan_at 1 scans (text_in o)) 0)
text_scan place scans None e = absurd (cc)
text_scan place scans (Some (string text)) e =
    let b = branch (is_name text) (positive_fault place (scan_of scans text)) (BadName place) e in
    found_scan scans (scan_at 1 scans text) (scan_within place 1 scans text b.1)
text_scan place scans (Some (integer n)) e = absurd (cc)
text_scan place scans (Some (float x)) e = absurd (cc)
text_scan place scans (Some (boolean b)) e = absurd (cc)
text_scan place scans (Some (datetime t)) e = absurd (cc)
text_scan place scans (Some (array ds)) e = absurd (cc)
text_scan place scans (Some (table ms)) e = absurd (cc)

scan_sound : (place : Place) (scans : List ScanItem) (d : Data) → scan_fault place scans d ≡ None → IsPositiveScan scans (scan_value scans d)
unfolding scan_fault scan_value
scan_sound place scans d e = text_scan (key_of place key.Scan) scans (at key.Scan d) e

-- ---- sizes and thousandths
record AreSizes (sizes : List ℤ) : Type 0 where
  count : (1 ≤ length sizes) × (length sizes ≤ MAX_SIZES)
  all : All (IsIn ABOVE_ZERO) sizes

sizes_all : (place : Place) (items : Items) → items_fault place ABOVE_ZERO items ≡ None → All (IsIn ABOVE_ZERO) (decimals_in items)
sizes_all place no_items e = All-nil (IsIn ABOVE_ZERO)
sizes_all place (item d ds) e =
    let checks = no_fault (decimal_check place ABOVE_ZERO d ∷ items_fault place ABOVE_ZERO ds ∷ []) e in
    All-cons (IsIn ABOVE_ZERO) (decimal_in d) (decimals_in ds) (checked place ABOVE_ZERO d (checks 0)) (sizes_all place ds (checks 1))

sizes_counted : (items : Items) → length (decimals_in items) ≡ count_items items
sizes_counted no_items = refl
sizes_counted (item d ds) = omega (arith, sizes_counted ds)

sizes_found : (place : Place) (o : Option Data) → decimals_found place 1 MAX_SIZES ABOVE_ZERO o ≡ None → AreSizes (decimals_in (items_in o))
sizes_found place None e = absurd (cc)
sizes_found place (Some (array ds)) e =
    let n = count_items ds in
    let checks = no_fault (length_fault place 1 MAX_SIZES n ∷ items_fault place ABOVE_ZERO ds ∷ []) e in
    let of_length = no_fault (unless (nat_le 1 n) (OutOfRange place) ∷ unless (nat_le n MAX_SIZES) (OutOfRange place) ∷ []) (checks 0) in
    let least = few_of 1 n (passed (nat_le 1 n) (OutOfRange place) (of_length 0)) in
    let most = few_of n MAX_SIZES (passed (nat_le n MAX_SIZES) (OutOfRange place) (of_length 1)) in record {
      count = (omega (arith, sizes_counted ds, least), omega (arith, sizes_counted ds, most));
      all = sizes_all place ds (checks 1);
    }
sizes_found place (Some (string text)) e = absurd (cc)
sizes_found place (Some (integer n)) e = absurd (cc)
sizes_found place (Some (float x)) e = absurd (cc)
sizes_found place (Some (boolean b)) e = absurd (cc)
sizes_found place (Some (datetime t)) e = absurd (cc)
sizes_found place (Some (table ms)) e = absurd (cc)

sizes_sound : (place : Place) (d : Data) → decimals_fault place key.Sizes 1 MAX_SIZES ABOVE_ZERO d ≡ None → AreSizes (sizes_value d)
unfolding decimals_fault sizes_value
sizes_sound place d e = sizes_found (key_of place key.Sizes) (at key.Sizes d) e

permille_within : (place : Place) (o : Option Data) → permille_found place o ≡ None → (1 ≤ whole_in 1 o) × (whole_in 1 o ≤ MAX_PERMILLE)
permille_within place None e = absurd (cc)
permille_within place (Some (integer n)) e =
    let both = and_parts (int_le (pos 1) n) (int_le n (pos MAX_PERMILLE)) (passed (int_le (pos 1) n && int_le n (pos MAX_PERMILLE)) (OutOfRange place) e) in
    counted n MAX_PERMILLE (at_most_of (pos 1) n both.0) (at_most_of n (pos MAX_PERMILLE) both.1)
permille_within place (Some (string text)) e = absurd (cc)
permille_within place (Some (float x)) e = absurd (cc)
permille_within place (Some (boolean b)) e = absurd (cc)
permille_within place (Some (datetime t)) e = absurd (cc)
permille_within place (Some (array ds)) e = absurd (cc)
permille_within place (Some (table ms)) e = absurd (cc)

permille_sound : (place : Place) (d : Data) → permille_fault place d ≡ None → (1 ≤ permille_value d) × (permille_value d ≤ MAX_PERMILLE)
unfolding permille_fault permille_value
permille_sound place d e = permille_within (key_of place key.Permille) (at key.Permille d) e

-- ---- the model of tolerances
in_sequences : (model : StudyModel) → not (in_phases model) ≡ true → model ≡ study_model.Sequence
in_sequences study_model.Sequence e = refl
in_sequences study_model.Phases e = absurd (cc)

model_of : (place : Place) (model : StudyModel) (elements : List Element) (o : Option Data) → model_found place model o ≡ None → named_found place elements o ≡ None → model ≡ study_model.Sequence
model_of place model elements None e h = absurd (cc)
model_of place model elements (Some (string text)) e h = in_sequences model (passed (not (in_phases model)) (OutOfRange place) e)
model_of place model elements (Some (integer n)) e h = absurd (cc)
model_of place model elements (Some (float x)) e h = absurd (cc)
model_of place model elements (Some (boolean b)) e h = absurd (cc)
model_of place model elements (Some (datetime t)) e h = absurd (cc)
model_of place model elements (Some (array ds)) e h = absurd (cc)
model_of place model elements (Some (table ms)) e h = absurd (cc)

model_sound : (place : Place) (model : StudyModel) (elements : List Element) (d : Data) → model_fault place model d ≡ None → named_fault place elements d ≡ None → model ≡ study_model.Sequence
unfolding model_fault named_fault
model_sound place model elements d e h = model_of (key_of place key.Element) model elements (at key.Element d) e h

-- ---- entries that differ
untrue : (test : Bool) → not test ≡ true → test ≡ false
untrue false e = refl
untrue true e = absurd (cc)

repeated_sound : (place : Place) (repeated : Bool) → repeated_fault place repeated ≡ None → repeated ≡ false
unfolding repeated_fault
repeated_sound place repeated e = untrue repeated (passed (not repeated) (OutOfRange (key_of place key.Element)) e)

neither : (a b : Bool) → (a || b) ≡ false → (a ≡ false) × (b ≡ false)
neither false false e = (refl, refl)
neither false true e = absurd (cc)
neither true b e = absurd (cc)

unequal : (m n : ℕ) → nat_eq m n ≡ false → m ≢ n
unequal m n e = λ same. absurd (grind (arith, nat_tests))

absent : {A : Type 0} (number : A → ℕ) (earlier : List A) (n : ℕ) → list_any (λ (x : A). nat_eq (number x) n) earlier ≡ false → All (λ (m : ℕ). m ≢ n) (map number earlier)
absent number [] n e = All-nil (λ (m : ℕ). m ≢ n)
absent {A} number (x ∷ xs) n e =
    let both = neither (nat_eq (number x) n) (list_any (λ (y : A). nat_eq (number y) n) xs) e in
    All-cons (λ (m : ℕ). m ≢ n) (number x) (map number xs) (unequal (number x) n both.0) (absent number xs n both.1)

-- ---- the entries of a section
references_lawful : {A : Type 0} (fault : Targets → List A → Place → Data → Option StudyFault) (value : Targets → Data → A) (lawful : A → Type 0) (targets : Targets) (at : Section)
    → ((earlier : List A) (place : Place) (d : Data) → fault targets earlier place d ≡ None → lawful (value targets d))
    → (earlier : List A) (n : ℕ) (items : Items) → references_fault fault value targets at earlier n items ≡ None → All lawful (entries_of (value targets) items)
references_lawful fault value lawful targets at sound earlier n no_items e = All-nil lawful
references_lawful fault value lawful targets at sound earlier n (item d ds) e =
    let place = place_of at n key.Nothing in
    let more = earlier ++ value targets d ∷ [] in
    let checks = no_fault (fault targets earlier place d ∷ references_fault fault value targets at more (n + 1) ds ∷ []) e in
    All-cons lawful (value targets d) (entries_of (value targets) ds) (sound earlier place d (checks 0)) (references_lawful fault value lawful targets at sound more (n + 1) ds (checks 1))

references_differ : {A : Type 0} (fault : Targets → List A → Place → Data → Option StudyFault) (value : Targets → Data → A) (number : A → ℕ) (targets : Targets) (at : Section)
    → ((earlier : List A) (place : Place) (d : Data) → fault targets earlier place d ≡ None → All (λ (m : ℕ). m ≢ number (value targets d)) (map number earlier))
    → (earlier : List A) (n : ℕ) (items : Items) → references_fault fault value targets at earlier n items ≡ None → AllPairs ◌≢◌ (map number earlier)
    → AllPairs ◌≢◌ (map number (earlier ++ entries_of (value targets) items))
references_differ fault value number targets at fresh earlier n no_items e distinct = subst (λ (ns : List ℕ). AllPairs ◌≢◌ ns) (rw (append-nil earlier) refl) distinct
references_differ {A} fault value number targets at fresh earlier n (item d ds) e distinct =
    let place = place_of at n key.Nothing in
    let made = value targets d in
    let more = earlier ++ made ∷ [] in
    let checks = no_fault (fault targets earlier place d ∷ references_fault fault value targets at more (n + 1) ds ∷ []) e in
    let pushed : map number earlier ++ number made ∷ [] ≡ map number more = rw map-append refl in
    let next = subst (λ (ns : List ℕ). AllPairs ◌≢◌ ns) pushed (all_pairs_push ◌≢◌ (map number earlier) (number made) distinct (fresh earlier place d (checks 0))) in
    subst (λ (xs : List A). AllPairs ◌≢◌ (map number xs)) (append_assoc earlier (made ∷ []) (entries_of (value targets) ds)) (references_differ fault value number targets at fresh more (n + 1) ds (checks 1) next)

record IsSound {A : Type 0} (lawful : A → Type 0) (o : Occurrence) (made : List A) : Type 0 where
  all : All lawful made
  few : length made ≤ o.most

section_lawful : {A : Type 0} (fault : Targets → List A → Place → Data → Option StudyFault) (value : Targets → Data → A) (lawful : A → Type 0) (o : Occurrence) (targets : Targets)
    → ((earlier : List A) (place : Place) (d : Data) → fault targets earlier place d ≡ None → lawful (value targets d))
    → (document : Data) → reference_section_fault fault value o targets document ≡ None → IsSound lawful o (section_value (value targets) o.section document)
unfolding reference_section_fault section_value
section_lawful fault value lawful o targets sound document e =
    let items = items_in (section_in o.section document) in
    let checks = no_fault (array_fault o (section_in o.section document) ∷ references_fault fault value targets o.section [] 1 items ∷ []) e in
    let most = (array_sound o (section_in o.section document) (checks 0)).0 in record {
      all = references_lawful fault value lawful targets o.section sound [] 1 items (checks 1);
      few = omega (arith, most, items_counted (value targets) items);
    }

none_differ : AllPairs {X = ℕ} ◌≢◌ []
none_differ = λ i j d lt short. absurd (omega arith)

section_differ : {A : Type 0} (fault : Targets → List A → Place → Data → Option StudyFault) (value : Targets → Data → A) (number : A → ℕ) (o : Occurrence) (targets : Targets)
    → ((earlier : List A) (place : Place) (d : Data) → fault targets earlier place d ≡ None → All (λ (m : ℕ). m ≢ number (value targets d)) (map number earlier))
    → (document : Data) → reference_section_fault fault value o targets document ≡ None → AllPairs ◌≢◌ (map number (section_value (value targets) o.section document))
unfolding reference_section_fault section_value
section_differ fault value number o targets fresh document e =
    let items = items_in (section_in o.section document) in
    let checks = no_fault (array_fault o (section_in o.section document) ∷ references_fault fault value targets o.section [] 1 items ∷ []) e in
    references_differ fault value number targets o.section fresh [] 1 items (checks 1) none_differ

-- ---- the three sections
candidate_lawful : (targets : Targets) (earlier : List Candidate) (place : Place) (d : Data) → candidate_entry_fault targets earlier place d ≡ None → IsReadCandidate targets (candidate_entry targets d)
unfolding candidate_entry_fault candidate_entry
candidate_lawful targets earlier place d e =
    let checks = no_fault (keys_fault place place candidate_keys d ∷ scan_fault place targets.scans d ∷ decimals_fault place key.Sizes 1 MAX_SIZES ABOVE_ZERO d ∷ []) e in
    let sizes = sizes_sound place d (checks 2) in
    record { scan = scan_sound place targets.scans d (checks 1); sizes_count = sizes.count; sizes = sizes.all }

record IsNewTolerance (targets : Targets) (earlier : List Tolerance) (tolerance : Tolerance) : Type 0 where
  lawful : IsReadTolerance targets tolerance
  fresh : All (λ (m : ℕ). m ≢ tolerance.element) (map (λ (t : Tolerance). t.element) earlier)

tolerance_new : (targets : Targets) (earlier : List Tolerance) (place : Place) (d : Data) → tolerance_entry_fault targets earlier place d ≡ None → IsNewTolerance targets earlier (tolerance_entry targets d)
unfolding tolerance_entry_fault tolerance_entry
tolerance_new targets earlier place d e =
    let checks = no_fault (keys_fault place place tolerance_keys d ∷ model_fault place targets.model d ∷ named_fault place targets.elements d ∷ repeated_fault place (has_tolerance earlier (named_value targets.elements d)) ∷ permille_fault place d ∷ []) e in record {
      lawful = record {
        model = model_sound place targets.model targets.elements d (checks 1) (checks 2);
        element = named_sound place targets.elements d (checks 2);
        permille = permille_sound place d (checks 4);
      };
      fresh = absent (λ (t : Tolerance). t.element) earlier (named_value targets.elements d) (repeated_sound place (has_tolerance earlier (named_value targets.elements d)) (checks 3));
    }

record IsNewOutage (targets : Targets) (earlier : List Outage) (outage : Outage) : Type 0 where
  lawful : IsReadOutage targets outage
  fresh : All (λ (m : ℕ). m ≢ outage.element) (map (λ (t : Outage). t.element) earlier)

outage_new : (targets : Targets) (earlier : List Outage) (place : Place) (d : Data) → outage_entry_fault targets earlier place d ≡ None → IsNewOutage targets earlier (outage_entry targets d)
unfolding outage_entry_fault outage_entry
outage_new targets earlier place d e =
    let checks = no_fault (keys_fault place place outage_keys d ∷ named_fault place targets.elements d ∷ repeated_fault place (has_outage earlier (named_value targets.elements d)) ∷ []) e in record {
      lawful = record { element = named_sound place targets.elements d (checks 1) };
      fresh = absent (λ (t : Outage). t.element) earlier (named_value targets.elements d) (repeated_sound place (has_outage earlier (named_value targets.elements d)) (checks 2));
    }

pub variants_sound : (targets : Targets) (document : Data) → variants_fault targets document ≡ None → AreLawfulVariants targets (variants_value targets document)
unfolding variants_fault variants_value
variants_sound targets document e =
    let of_candidates = at_most section.Candidate MAX_CANDIDATES in
    let of_tolerances = at_most section.Tolerance MAX_TOLERANCES in
    let of_outages = at_most section.Outage MAX_OUTAGES in
    let checks = no_fault (reference_section_fault candidate_entry_fault candidate_entry of_candidates targets document ∷ reference_section_fault tolerance_entry_fault tolerance_entry of_tolerances targets document ∷ reference_section_fault outage_entry_fault outage_entry of_outages targets document ∷ []) e in
    let candidates = section_lawful candidate_entry_fault candidate_entry (IsReadCandidate targets) of_candidates targets (candidate_lawful targets) document (checks 0) in
    let tolerances = section_lawful tolerance_entry_fault tolerance_entry (IsReadTolerance targets) of_tolerances targets (λ earlier place d h. (tolerance_new targets earlier place d h).lawful) document (checks 1) in
    let outages = section_lawful outage_entry_fault outage_entry (IsReadOutage targets) of_outages targets (λ earlier place d h. (outage_new targets earlier place d h).lawful) document (checks 2) in record {
      candidates_count = candidates.few;
      candidates = candidates.all;
      tolerances_count = tolerances.few;
      tolerances = tolerances.all;
      tolerances_differ = section_differ tolerance_entry_fault tolerance_entry (λ (t : Tolerance). t.element) of_tolerances targets (λ earlier place d h. (tolerance_new targets earlier place d h).fresh) document (checks 1);
      outages_count = outages.few;
      outages = outages.all;
      outages_differ = section_differ outage_entry_fault outage_entry (λ (t : Outage). t.element) of_outages targets (λ earlier place d h. (outage_new targets earlier place d h).fresh) document (checks 2);
    }
