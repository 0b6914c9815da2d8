-- A field of a text, read as a field of its kind.
use Rattle.std.proofs.Common.{◌≡◌, ◌∙◌, ap, ℕ, ◌^◌, ◌≤◌, ◌<◌, Bool, true, false, List, [], ◌∷◌, ◌++◌, drop, min, max, refl, arith, append_assoc, ℤ, pos, negsuc}
use Rattle.std.proofs.lemmas.Int.{ints}
use Rattle.std.specs.Prelude.{◌==◌, if◌then◌else◌, unsigned_abs, Option, Some, None}
use Rattle.std.specs.Fmt.{decimal}
use Rattle.study_model.specs.NameText.{is_name}
use Rattle.study_model.specs.ValueWords.{method_text}
use Rattle.study_model.specs.declared.words.Method.{Method}
use Rattle.study_model.specs.declared.words.Method.TheVariants.{Elimination, Both, Branchwise}
use Rattle.scan_report.specs.declared.rows.NetWord.{NetWord}
use Rattle.scan_report.specs.declared.rows.NetWord.TheVariants.{Positive, Zero, A, B, C}
use Rattle.scan_report.specs.declared.rows.BoxWord.{BoxWord}
use Rattle.scan_report.specs.declared.rows.BoxWord.TheVariants.{Cleared, Peak, Undecided}
use Rattle.scan_report.specs.declared.fields.Field.{Field}
use Rattle.scan_report.specs.declared.fields.Field.TheVariants as field
use Rattle.scan_report.specs.Text.{places, four_places}
use Rattle.ieee519_limits.specs.declared.bounds.Verdict.{Verdict}
use Rattle.ieee519_limits.specs.declared.bounds.Verdict.TheVariants as verdict
use Rattle.scan_report.specs.declared.rows.PhaseWord.{PhaseWord}
use Rattle.scan_report.specs.declared.rows.PhaseWord.TheVariants as phase
use Rattle.scan_report.specs.Fields.{net_word, box_word, phase_word, verdict_word, order_or_dash, ohms_or_dash, ohms_or_curve, percent_or_dash, feed_word, size_or_dash, field_text, fields_text}
use Rattle.scan_report.specs.Rows.{IsOhms}
use Rattle.scan_report.specs.Reading.{IsShort, IsLong, IsThreshold, IsField, AreFields}
use Rattle.scan_report.specs.Loose.{field_of, after_field, first_of, number_of, short_of, long_of, order_of, ohms_of, threshold_of, name_in, net_of, box_word_of, method_in}
use Rattle.scan_report.proofs.Fronts.{Inner, Inner-decimal, Inner-places, Inner-four_places, Inner-name, Reads-decimal, Reads-places, Reads-four_places, number_is, places_no_dash, places_no_letter, field_front, after_front}

-- a percentage of the kind of another; no row that is read has one
abbrev pub percent_as : Option ℕ → List ℕ → Option ℕ
percent_as None x = None
percent_as (Some percent) x = Some (long_of x)

-- a size of the kind of another; no row that is read has one
abbrev pub size_as : Option ℤ → List ℕ → Option ℤ
size_as None x = None
size_as (Some size) x = Some (pos (max 1 (min (number_of x) 999999999999)))

-- a text read as a field of the kind of another
abbrev pub read_as : Field → List ℕ → Field
read_as (field.Name name) x = field.Name (name_in x)
read_as (field.Number number) x = field.Number (short_of x)
read_as (field.Order order) x = field.Order (short_of x)
read_as (field.Hertz hertz) x = field.Hertz (long_of x)
read_as (field.Threshold ohms) x = field.Threshold (threshold_of x)
read_as (field.At order) x = field.At (order_of x)
read_as (field.Bound ohms) x = field.Bound (ohms_of x)
read_as (field.Network word) x = field.Network (net_of x)
read_as (field.Found word) x = field.Found (box_word_of x)
read_as (field.Method method) x = field.Method (method_in x)
read_as (field.Phase word) x = field.Phase word
read_as (field.Percent percent) x = field.Percent (percent_as percent x)
read_as (field.Verdict verdict) x = field.Verdict verdict
read_as (field.Size size) x = field.Size (size_as size x)
read_as (field.Floating floating) x = field.Floating floating

-- the fields of a text, each of the kind of one of these
abbrev pub fields_in : List Field → List ℕ → List Field
fields_in [] x = []
fields_in (f ∷ fs) x = read_as f (field_of x) ∷ fields_in fs (after_field x)

-- each kind of field
short_decimal : (n : ℕ) → n < 2 ^ 32 → short_of (decimal n) ≡ n
unfolding short_of
short_decimal n h = rw (number_is (decimal n) n (Reads-decimal n (omega arith)) (omega arith)) (omega arith)

short_places : (n : ℕ) → n < 2 ^ 32 → short_of (places n) ≡ n
unfolding short_of
short_places n h = rw (number_is (places n) n (Reads-places n (omega arith)) (omega arith)) (omega arith)

long_places : (n : ℕ) → n < 2 ^ 64 → long_of (places n) ≡ n
unfolding long_of
long_places n h = rw (number_is (places n) n (Reads-places n (omega arith)) (omega arith)) (omega arith)

long_four_places : (n : ℕ) → n < 2 ^ 64 → long_of (four_places n) ≡ n
unfolding long_of
long_four_places n h = rw (number_is (four_places n) n (Reads-four_places n (omega arith)) (omega arith)) (omega arith)

percent_back : (percent : Option ℕ) → IsLong percent → percent_as percent (percent_or_dash percent) ≡ percent
percent_back None h = refl
percent_back (Some n) h = ap Some (long_four_places n h)

order_back : (at : Option ℕ) → IsShort at → order_of (order_or_dash at) ≡ at
unfolding order_of
order_back None h = refl
order_back (Some n) h = rw (places_no_dash n (omega arith), short_places n h) refl

ohms_back : (ohms : Option ℤ) → IsOhms ohms → ohms_of (ohms_or_dash ohms) ≡ ohms
unfolding ohms_of
ohms_back None h = refl
ohms_back (Some (pos n)) h =
    let e : min n (2 ^ 120) ≡ n = omega arith in
    rw (places_no_dash n (omega arith), number_is (places n) n (Reads-places n (omega arith)) (omega arith), e) refl
ohms_back (Some (negsuc n)) h = absurd h

threshold_back : (t : Option ℤ) → IsThreshold t → threshold_of (ohms_or_curve t) ≡ t
unfolding threshold_of
threshold_back None h = refl
threshold_back (Some (pos n)) h =
    let some = h.0 in
    let small : n < 10 ^ 12 = h.1 in
    let big : 1 ≤ n = omega (arith, ints, some) in
    let e : max 1 (min n 999999999999) ≡ n = omega arith in
    rw (places_no_letter n (omega arith), number_is (places n) n (Reads-places n (omega arith)) (omega arith), e) refl
threshold_back (Some (negsuc n)) h = let some = h.0 in absurd (omega (arith, ints, some))

size_back : (size : Option ℤ) → IsThreshold size → size_as size (size_or_dash size) ≡ size
size_back None h = refl
size_back (Some (pos n)) h =
    let some = h.0 in
    let small : n < 10 ^ 12 = h.1 in
    let big : 1 ≤ n = omega (arith, ints, some) in
    let e : max 1 (min n 999999999999) ≡ n = omega arith in
    rw (number_is (places n) n (Reads-places n (omega arith)) (omega arith), e) refl
size_back (Some (negsuc n)) h = let some = h.0 in absurd (omega (arith, ints, some))

name_back : (x : List ℕ) → is_name x ≡ true → name_in x ≡ x
unfolding name_in
name_back x h = rw h refl

net_back : (w : NetWord) → net_of (net_word w) ≡ w
unfolding net_of
net_back Positive = refl
net_back Zero = refl
net_back A = refl
net_back B = refl
net_back C = refl

box_word_back : (w : BoxWord) → box_word_of (box_word w) ≡ w
unfolding box_word_of
box_word_back Cleared = refl
box_word_back Peak = refl
box_word_back Undecided = refl

method_back : (m : Method) → method_in (method_text m) ≡ m
unfolding method_in
method_back Elimination = refl
method_back Both = refl
method_back Branchwise = refl

-- each kind of field has no byte that ends one
inner_net : (w : NetWord) → Inner (net_word w)
inner_net Positive = record { is = refl }
inner_net Zero = record { is = refl }
inner_net A = record { is = refl }
inner_net B = record { is = refl }
inner_net C = record { is = refl }

inner_box_word : (w : BoxWord) → Inner (box_word w)
inner_box_word Cleared = record { is = refl }
inner_box_word Peak = record { is = refl }
inner_box_word Undecided = record { is = refl }

inner_method : (m : Method) → Inner (method_text m)
inner_method Elimination = record { is = refl }
inner_method Both = record { is = refl }
inner_method Branchwise = record { is = refl }

inner_phase : (w : PhaseWord) → Inner (phase_word w)
inner_phase phase.S = record { is = refl }
inner_phase phase.A = record { is = refl }
inner_phase phase.B = record { is = refl }
inner_phase phase.C = record { is = refl }

inner_verdict : (v : Verdict) → Inner (verdict_word v)
inner_verdict verdict.Pass = record { is = refl }
inner_verdict verdict.Fail = record { is = refl }
inner_verdict verdict.Undecided = record { is = refl }

inner_feed : (floating : Bool) → Inner (feed_word floating)
inner_feed true = record { is = refl }
inner_feed false = record { is = refl }

inner_percent : (percent : Option ℕ) → IsLong percent → Inner (percent_or_dash percent)
inner_percent None h = record { is = refl }
inner_percent (Some n) h = Inner-four_places n (omega arith)

inner_order : (at : Option ℕ) → IsShort at → Inner (order_or_dash at)
inner_order None h = record { is = refl }
inner_order (Some n) h = Inner-places n (omega arith)

inner_ohms : (ohms : Option ℤ) → IsOhms ohms → Inner (ohms_or_dash ohms)
inner_ohms None h = record { is = refl }
inner_ohms (Some (pos n)) h = Inner-places n (omega arith)
inner_ohms (Some (negsuc n)) h = absurd h

inner_threshold : (t : Option ℤ) → IsThreshold t → Inner (ohms_or_curve t)
inner_threshold None h = record { is = refl }
inner_threshold (Some ohms) h = let small : unsigned_abs ohms < 10 ^ 12 = h.1 in Inner-places (unsigned_abs ohms) (omega arith)

inner_size : (size : Option ℤ) → IsThreshold size → Inner (size_or_dash size)
inner_size None h = record { is = refl }
inner_size (Some size) h = let small : unsigned_abs size < 10 ^ 12 = h.1 in Inner-places (unsigned_abs size) (omega arith)

inner_field : (f : Field) → IsField f → Inner (field_text f)
inner_field (field.Name name) h = Inner-name name h
inner_field (field.Number number) h = Inner-decimal number (omega arith)
inner_field (field.Order order) h = Inner-places order (omega arith)
inner_field (field.Hertz hertz) h = Inner-places hertz (omega arith)
inner_field (field.Threshold ohms) h = inner_threshold ohms h
inner_field (field.At order) h = inner_order order h
inner_field (field.Bound ohms) h = inner_ohms ohms h
inner_field (field.Network word) h = inner_net word
inner_field (field.Found word) h = inner_box_word word
inner_field (field.Method method) h = inner_method method
inner_field (field.Phase word) h = inner_phase word
inner_field (field.Percent percent) h = inner_percent percent h
inner_field (field.Verdict verdict) h = inner_verdict verdict
inner_field (field.Size size) h = inner_size size h
inner_field (field.Floating floating) h = inner_feed floating

-- A field's own text is read as the field.
field_back : (f : Field) → IsField f → read_as f (field_text f) ≡ f
field_back (field.Name name) h = ap (λ x. field.Name x) (name_back name h)
field_back (field.Number number) h = ap (λ x. field.Number x) (short_decimal number h)
field_back (field.Order order) h = ap (λ x. field.Order x) (short_places order h)
field_back (field.Hertz hertz) h = ap (λ x. field.Hertz x) (long_places hertz h)
field_back (field.Threshold ohms) h = ap (λ x. field.Threshold x) (threshold_back ohms h)
field_back (field.At order) h = ap (λ x. field.At x) (order_back order h)
field_back (field.Bound ohms) h = ap (λ x. field.Bound x) (ohms_back ohms h)
field_back (field.Network word) h = ap (λ x. field.Network x) (net_back word)
field_back (field.Found word) h = ap (λ x. field.Found x) (box_word_back word)
field_back (field.Method method) h = ap (λ x. field.Method x) (method_back method)
field_back (field.Phase word) h = refl
field_back (field.Percent percent) h = ap (λ x. field.Percent x) (percent_back percent h)
field_back (field.Verdict verdict) h = refl
field_back (field.Size size) h = ap (λ x. field.Size x) (size_back size h)
field_back (field.Floating floating) h = refl

-- what is read of any text is in its range
short_lt : (x : List ℕ) → short_of x < 2 ^ 32
unfolding short_of
short_lt x = omega arith

long_lt : (x : List ℕ) → long_of x < 2 ^ 64
unfolding long_of
long_lt x = omega arith

percent_long : (percent : Option ℕ) (x : List ℕ) → IsLong (percent_as percent x)
percent_long None x = tt
percent_long (Some n) x = long_lt x

order_short : (x : List ℕ) → IsShort (order_of x)
unfolding order_of
order_short x = elim (first_of x == 45) as (λ b. IsShort (if b then None else Some (short_of x))) [ true ↦ tt | false ↦ short_lt x ]

ohms_are : (x : List ℕ) → IsOhms (ohms_of x)
unfolding ohms_of
ohms_are x = elim (first_of x == 45) as (λ b. IsOhms (if b then None else Some (pos (min (number_of x) (2 ^ 120))))) [ true ↦ tt | false ↦ omega arith ]

name_by : (b : Bool) (x : List ℕ) → is_name x ≡ b → is_name (if b then x else 97 ∷ []) ≡ true
name_by true x h = h
name_by false x h = refl

name_is : (x : List ℕ) → is_name (name_in x) ≡ true
unfolding name_in
name_is x = name_by (is_name x) x refl

threshold_within : (x : List ℕ) → IsThreshold (Some (pos (max 1 (min (number_of x) 999999999999))))
threshold_within x = (omega (arith, ints), omega arith)

threshold_is : (x : List ℕ) → IsThreshold (threshold_of x)
unfolding threshold_of
threshold_is x = elim (first_of x == 99) as (λ b. IsThreshold (if b then None else Some (pos (max 1 (min (number_of x) 999999999999))))) [ true ↦ tt | false ↦ threshold_within x ]

size_within : (size : Option ℤ) (x : List ℕ) → IsThreshold (size_as size x)
size_within None x = tt
size_within (Some size) x = threshold_within x

field_is : (f : Field) (x : List ℕ) → IsField (read_as f x)
field_is (field.Name name) x = name_is x
field_is (field.Number number) x = short_lt x
field_is (field.Order order) x = short_lt x
field_is (field.Hertz hertz) x = long_lt x
field_is (field.Threshold ohms) x = threshold_is x
field_is (field.At order) x = order_short x
field_is (field.Bound ohms) x = ohms_are x
field_is (field.Network word) x = tt
field_is (field.Found word) x = tt
field_is (field.Method method) x = tt
field_is (field.Phase word) x = tt
field_is (field.Percent percent) x = percent_long percent x
field_is (field.Verdict verdict) x = tt
field_is (field.Size size) x = size_within size x
field_is (field.Floating floating) x = tt

pub fields_are : (fs : List Field) (x : List ℕ) → AreFields (fields_in fs x)
fields_are [] x = tt
fields_are (f ∷ fs) x = (field_is f (field_of x), fields_are fs (after_field x))

-- each field after a comma, a line feed, and what follows
abbrev pub fields_with : List Field → List ℕ → List ℕ
fields_with [] tail = 10 ∷ tail
fields_with (f ∷ fs) tail = 44 ∷ (field_text f ++ fields_with fs tail)

pub with_tail : (fs : List Field) (tail : List ℕ) → fields_text fs ++ tail ≡ fields_with fs tail
with_tail [] tail = refl
with_tail (f ∷ fs) tail = ap (λ x. 44 ∷ x) (append_assoc (field_text f) (fields_text fs) tail ∙ ap (λ x. field_text f ++ x) (with_tail fs tail))

field_ends : (x : List ℕ) (fs : List Field) (tail : List ℕ) → Inner x → field_of (x ++ fields_with fs tail) ≡ x
field_ends x [] tail h = field_front x tail 10 h refl
field_ends x (f ∷ fs) tail h = field_front x (field_text f ++ fields_with fs tail) 44 h refl

pub field_passed : (x : List ℕ) (fs : List Field) (tail : List ℕ) → Inner x → after_field (x ++ fields_with fs tail) ≡ drop 1 (fields_with fs tail)
field_passed x [] tail h = after_front x tail 10 h refl
field_passed x (f ∷ fs) tail h = after_front x (field_text f ++ fields_with fs tail) 44 h refl

-- The fields of a row's own text are the row's.
pub fields_back : (fs : List Field) (tail : List ℕ) → AreFields fs → fields_in fs (drop 1 (fields_with fs tail)) ≡ fs
fields_back [] tail h = refl
fields_back (f ∷ fs) tail h =
    let inner : Inner (field_text f) = inner_field f h.0 in
    let text : List ℕ = field_text f ++ fields_with fs tail in
    ap (λ x. read_as f x ∷ fields_in fs (after_field text)) (field_ends (field_text f) fs tail inner)
    ∙ ap (λ x. read_as f (field_text f) ∷ fields_in fs x) (field_passed (field_text f) fs tail inner)
    ∙ ap (λ x. x ∷ fields_in fs (drop 1 (fields_with fs tail))) (field_back f h.0)
    ∙ ap (λ x. f ∷ x) (fields_back fs tail h.1)
