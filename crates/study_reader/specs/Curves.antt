-- The threshold of a scan: ohms in version 1, and a curve in version 2.
use Rattle.std.specs.Prelude.{ℕ, ℤ, unsigned_abs, ◌-◌, nat_eq, nat_lt, nat_le, Bool, true, ◌&&◌, if◌then◌else◌, List, [], ◌∷◌, length, take, slice_index, Option, Some, None}
use Rattle.toml.specs.Data.{Data, Items, no_items, item, string, integer, float, boolean, datetime, array, table}
use Rattle.study_model.specs.Curve.{curve_of, flat_points}
use Rattle.study_model.specs.declared.curve.Curve.{Curve}
use Rattle.study_model.specs.declared.curve.CurvePoint.{CurvePoint}
use Rattle.study_model.specs.declared.curve.TheConstants.{MAX_CURVE_POINTS}
use Rattle.study_model.specs.declared.fault.Place.{Place}
use Rattle.study_model.specs.declared.fault.Key.{Key}
use Rattle.study_model.specs.declared.fault.Key.TheVariants as key
use Rattle.study_model.specs.declared.fault.StudyFault.{StudyFault}
use Rattle.study_model.specs.declared.fault.StudyFault.TheVariants.{MissingKey, WrongKind, OutOfRange}
use Rattle.study_model.specs.declared.range.Range.{Range}
use Rattle.study_model.specs.declared.range.TheConstants.Range.{ABOVE_ZERO, BAND}
use Rattle.study_reader.specs.Checks.{first_fault, key_of, unless, at, decimal_check, decimal_in, decimal_fault, decimal_value}
use Rattle.study_reader.specs.Sections.{count_items, items_in}
use Rattle.study_reader.specs.declared.decimal_array.Decimals.{Decimals}
use Rattle.study_reader.specs.declared.curves.Limit.{Limit}

-- ---- an array of decimals
-- its items, each in a range
abbrev pub items_fault : Place → Range → Items → Option StudyFault
items_fault place range no_items = None
items_fault place range (item d ds) = first_fault (decimal_check place range d ∷ items_fault place range ds ∷ [])

-- their millionths
abbrev pub millionths_in : Items → List ℕ
millionths_in no_items = []
millionths_in (item d ds) = unsigned_abs (decimal_in d) ∷ millionths_in ds

-- its length
abbrev pub length_fault : Place → ℕ → ℕ → ℕ → Option StudyFault
length_fault place least most count = first_fault (unless (nat_le least count) (OutOfRange place) ∷ unless (nat_le count most) (OutOfRange place) ∷ [])

-- its length, and then its items
abbrev pub counted_fault : Place → ℕ → ℕ → Range → Items → Option StudyFault
counted_fault place least most range ds = first_fault (length_fault place least most (count_items ds) ∷ items_fault place range ds ∷ [])

-- its kind before them
abbrev pub decimals_check : Place → ℕ → ℕ → Range → Data → Option StudyFault
decimals_check place least most range (array ds) = counted_fault place least most range ds
decimals_check place least most range (string text) = Some (WrongKind place)
decimals_check place least most range (integer n) = Some (WrongKind place)
decimals_check place least most range (float x) = Some (WrongKind place)
decimals_check place least most range (boolean b) = Some (WrongKind place)
decimals_check place least most range (datetime t) = Some (WrongKind place)
decimals_check place least most range (table ms) = Some (WrongKind place)

abbrev pub decimals_found : Place → ℕ → ℕ → Range → Option Data → Option StudyFault
decimals_found place least most range None = Some (MissingKey place)
decimals_found place least most range (Some value) = decimals_check place least most range value

-- an array of decimals, from so many to so many, each in a range, which has to stand there
unfoldable pub decimals_fault : Place → Key → ℕ → ℕ → Range → Data → Option StudyFault
decimals_fault place key least most range entry = decimals_found (key_of place key) least most range (at key entry)

-- the decimals of the array at a key, in millionths
unfoldable pub decimals_value : Key → Data → List ℕ
decimals_value key entry = millionths_in (items_in (at key entry))

-- the decimals that were read
abbrev pub listed : Decimals → List ℕ
listed decimals = take decimals.len decimals.millionths

-- ---- a curve
-- each number is above the one before it, and the first above a number
abbrev pub is_rising : ℕ → List ℕ → Bool
is_rising before [] = true
is_rising before (x ∷ xs) = nat_lt before x && is_rising x xs

-- orders that rise, from at most an order to at least another
unfoldable pub reach_fault : Place → ℤ → ℤ → List ℕ → Option StudyFault
reach_fault place from to orders = unless (
    is_rising 0 orders && nat_le (slice_index orders 0) (unsigned_abs from) && nat_le (unsigned_abs to) (slice_index orders (length orders - 1))
    ) (OutOfRange (key_of place key.CurveAt))

-- points of orders and of as many ohms
abbrev pub points_of : List ℕ → List ℕ → List CurvePoint
points_of (at ∷ orders) (w ∷ ohms) = record { at = at; ohms = w } ∷ points_of orders ohms
points_of _ _ = []

-- the orders, which reach over the band, and then as many ohms
unfoldable pub curve_fault : Place → ℤ → ℤ → Data → Option StudyFault
curve_fault place from to entry = let orders = decimals_value key.CurveAt entry in first_fault (
    decimals_fault place key.CurveAt 2 MAX_CURVE_POINTS BAND entry ∷
    reach_fault place from to orders ∷
    decimals_fault place key.CurveOhms (length orders) (length orders) ABOVE_ZERO entry ∷ [])

unfoldable pub curve_value : Data → Curve
curve_value entry = curve_of (points_of (decimals_value key.CurveAt entry) (decimals_value key.CurveOhms entry))

-- ---- the threshold of a scan
-- the thresholds of a study of this version are curves
abbrev pub has_curves : ℕ → Bool
has_curves version = nat_eq version 2

unfoldable pub limit_fault : ℕ → Place → ℤ → ℤ → Data → Option StudyFault
limit_fault version place from to entry = if has_curves version then curve_fault place from to entry else decimal_fault place key.Threshold ABOVE_ZERO entry

-- ohms with their flat curve, or a curve alone
unfoldable pub limit : ℕ → Data → Limit
limit version entry = if has_curves version
    then record { threshold = None; curve = curve_value entry }
    else record { threshold = Some (decimal_value key.Threshold entry); curve = curve_of (flat_points (unsigned_abs (decimal_value key.Threshold entry))) }
