-- The text of each kind of field of a row.
use Rattle.std.specs.Prelude.{ℕ, ℤ, ◌+◌, unsigned_abs, Bool, true, false, List, [], ◌∷◌, ◌++◌, codes, Option, Some, None}
use Rattle.std.specs.Fmt.{decimal}
use Rattle.study_model.specs.ValueWords.{method_text}
use Rattle.ieee519_limits.specs.declared.bounds.Verdict.{Verdict}
use Rattle.ieee519_limits.specs.declared.bounds.Verdict.TheVariants as verdict
use Rattle.scan_report.specs.Text.{places, four_places}
use Rattle.scan_report.specs.declared.rows.NetWord.{NetWord}
use Rattle.scan_report.specs.declared.rows.NetWord.TheVariants.{Positive, Zero, A, B, C}
use Rattle.scan_report.specs.declared.rows.BoxWord.{BoxWord}
use Rattle.scan_report.specs.declared.rows.BoxWord.TheVariants.{Cleared, Peak, Undecided}
use Rattle.scan_report.specs.declared.rows.PhaseWord.{PhaseWord}
use Rattle.scan_report.specs.declared.rows.PhaseWord.TheVariants as phase
use Rattle.scan_report.specs.declared.fields.Field.{Field}
use Rattle.scan_report.specs.declared.fields.Field.TheVariants as field

-- a sequence network, or a phase
abbrev pub net_word : NetWord → List ℕ
net_word Positive = codes "positive"
net_word Zero = codes "zero"
net_word A = codes "a"
net_word B = codes "b"
net_word C = codes "c"

abbrev pub box_word : BoxWord → List ℕ
box_word Cleared = codes "cleared"
box_word Peak = codes "peak"
box_word Undecided = codes "undecided"

-- a sequence network, or a phase, of a distortion
abbrev pub phase_word : PhaseWord → List ℕ
phase_word phase.S = codes "s"
phase_word phase.A = codes "a"
phase_word phase.B = codes "b"
phase_word phase.C = codes "c"

abbrev pub verdict_word : Verdict → List ℕ
verdict_word verdict.Pass = codes "pass"
verdict_word verdict.Fail = codes "fail"
verdict_word verdict.Undecided = codes "undecided"

-- whether some bus floats
abbrev pub feed_word : Bool → List ℕ
feed_word true = codes "floating"
feed_word false = codes "fed"

-- an order, or a dash where it is absent
abbrev pub order_or_dash : Option ℕ → List ℕ
order_or_dash None = codes "-"
order_or_dash (Some at) = places at

-- ohms, or a dash where they are absent
abbrev pub ohms_or_dash : Option ℤ → List ℕ
ohms_or_dash None = codes "-"
ohms_or_dash (Some micro_ohms) = places (unsigned_abs micro_ohms)

-- ohms, or the word of a curve where they are absent
abbrev pub ohms_or_curve : Option ℤ → List ℕ
ohms_or_curve None = codes "curve"
ohms_or_curve (Some ohms) = places (unsigned_abs ohms)

-- a percentage, or a dash where it is absent
abbrev pub percent_or_dash : Option ℕ → List ℕ
percent_or_dash None = codes "-"
percent_or_dash (Some ten_thousandths) = four_places ten_thousandths

-- the size of a bank, or a dash where it is absent
abbrev pub size_or_dash : Option ℤ → List ℕ
size_or_dash None = codes "-"
size_or_dash (Some size) = places (unsigned_abs size)

-- the text of a field
abbrev pub field_text : Field → List ℕ
field_text (field.Name name) = name
field_text (field.Number number) = decimal number
field_text (field.Order order) = places order
field_text (field.Hertz hertz) = places hertz
field_text (field.Threshold ohms) = ohms_or_curve ohms
field_text (field.At order) = order_or_dash order
field_text (field.Bound micro_ohms) = ohms_or_dash micro_ohms
field_text (field.Network word) = net_word word
field_text (field.Found word) = box_word word
field_text (field.Method method) = method_text method
field_text (field.Phase word) = phase_word word
field_text (field.Percent percent) = percent_or_dash percent
field_text (field.Verdict verdict) = verdict_word verdict
field_text (field.Size size) = size_or_dash size
field_text (field.Floating floating) = feed_word floating

-- each field after a comma, and a line feed
abbrev pub fields_text : List Field → List ℕ
fields_text [] = 10 ∷ []
fields_text (f ∷ fs) = 44 ∷ field_text f ++ fields_text fs

-- the most bytes of a field's text
abbrev pub most_of : Field → ℕ
most_of (field.Name name) = 32
most_of (field.Number number) = 10
most_of (field.Order order) = 21
most_of (field.Hertz hertz) = 21
most_of (field.Threshold ohms) = 21
most_of (field.At order) = 21
most_of (field.Bound micro_ohms) = 38
most_of (field.Network word) = 8
most_of (field.Found word) = 9
most_of (field.Method method) = 11
most_of (field.Phase word) = 1
most_of (field.Percent percent) = 21
most_of (field.Verdict verdict) = 9
most_of (field.Size size) = 21
most_of (field.Floating floating) = 8

-- the most bytes of fields, their commas and the line feed
abbrev pub most_of_all : List Field → ℕ
most_of_all [] = 1
most_of_all (f ∷ fs) = 1 + most_of f + most_of_all fs
