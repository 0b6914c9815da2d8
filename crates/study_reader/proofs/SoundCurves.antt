-- The threshold of a scan whose checks find no fault.
use Rattle.std.proofs.Common.{◌≡◌, ◌∙◌, ◌⊎◌, ℕ, ℤ, pos, zero, suc, ◌-◌, ◌<◌, ◌≤◌, ◌^◌, nat_lt, nat_le, Bool, true, false, ◌&&◌, if◌then◌else◌, List, [], ◌∷◌, length, Option, Some, None, refl, arith, sym, ap, subst, All, IsSomeAnd, slice_get}
use Rattle.std.specs.Prelude.{◌≤ℤ◌, unsigned_abs, slice_index}
use Rattle.std.specs.List.{AllByRecursion}
use Rattle.std.specs.List.Sorted.{IsStrictlyIncreasing}
use Rattle.std.proofs.lemmas.Bool.{and_parts}
use Rattle.std.proofs.lemmas.Bool.Decides.{nat_tests}
use Rattle.std.proofs.lemmas.Int.{ints}
use Rattle.std.proofs.lemmas.List.Elements.{All-from_recursion}
use Rattle.toml.specs.Data.{Data, Items, no_items, item, string, integer, float, boolean, datetime, array, table}
use Rattle.study_model.specs.Range.{IsIn}
use Rattle.study_model.specs.Lawful.{IsThreshold}
use Rattle.study_model.specs.Curve.{curve_points, curve_orders, curve_of, flat_points, IsLawfulPoint, IsLawfulCurve, Spans}
use Rattle.study_model.specs.declared.curve.CurvePoint.{CurvePoint}
use Rattle.study_model.specs.declared.curve.TheConstants.{MAX_CURVE_POINTS}
use Rattle.study_model.specs.declared.fault.Place.{Place}
use Rattle.study_model.specs.declared.fault.Key.{Key}
use Rattle.study_model.specs.declared.fault.Key.TheVariants as key
use Rattle.study_model.specs.declared.fault.StudyFault.TheVariants.{OutOfRange}
use Rattle.study_model.specs.declared.range.Range.{Range}
use Rattle.study_model.specs.declared.range.TheConstants.Range.{ABOVE_ZERO, BAND}
use Rattle.study_model.proofs.Curves.{laid_out, points_back, rising_one, rising_more, flat_lawful, flat_spans}
use Rattle.study_reader.specs.Checks.{unless, key_of, at, decimal_check, decimal_in, decimal_fault, decimal_value}
use Rattle.study_reader.specs.Sections.{count_items, items_in}
use Rattle.study_reader.specs.Curves.{items_fault, millionths_in, length_fault, decimals_found, decimals_fault, decimals_value, is_rising, reach_fault, points_of, curve_fault, curve_value, has_curves, limit_fault, limit}
use Rattle.study_reader.specs.declared.curves.Limit.{Limit}
use Rattle.study_reader.proofs.Sound.{no_fault, passed, checked, decimal_sound}

-- ---- an array of decimals
-- a number is in a range
abbrev pub IsNumber : Range → ℕ → Type 0
IsNumber range n = IsIn range (pos n)

as_number : (range : Range) (d : ℤ) → pos 0 ≤ℤ range.low → IsIn range d → IsNumber range (unsigned_abs d)
as_number range d low h = let from = h.0 in let to = h.1 in (omega (arith, ints, low, from, to), omega (arith, ints, low, from, to))

items_sound : (place : Place) (range : Range) (items : Items) → pos 0 ≤ℤ range.low → items_fault place range items ≡ None → AllByRecursion (IsNumber range) (millionths_in items)
items_sound place range no_items low e = tt
items_sound place range (item d ds) low e =
    let checks = no_fault (decimal_check place range d ∷ items_fault place range ds ∷ []) e in
    (as_number range (decimal_in d) low (checked place range d (checks 0)), items_sound place range ds low (checks 1))

items_counted : (items : Items) → length (millionths_in items) ≡ count_items items
items_counted no_items = refl
items_counted (item d ds) = omega (arith, items_counted ds)

-- as many numbers as there may be, each in its range
pub record AreRead (least most : ℕ) (range : Range) (read : List ℕ) : Type 0 where
  pub enough : least ≤ length read
  pub few : length read ≤ most
  pub numbers : AllByRecursion (IsNumber range) read

at_most_of : (m n : ℕ) → nat_le m n ≡ true → m ≤ n
at_most_of m n e = grind (arith, nat_tests)

found_sound : (place : Place) (least most : ℕ) (range : Range) (o : Option Data) → pos 0 ≤ℤ range.low → decimals_found place least most range o ≡ None
    → AreRead least most range (millionths_in (items_in o))
found_sound place least most range None low e = absurd (cc)
found_sound place least most range (Some (array ds)) low e =
    let n = count_items ds in
    let checks = no_fault (length_fault place least most n ∷ items_fault place range ds ∷ []) e in
    let of_length = no_fault (unless (nat_le least n) (OutOfRange place) ∷ unless (nat_le n most) (OutOfRange place) ∷ []) (checks 0) in
    let enough = at_most_of least n (passed (nat_le least n) (OutOfRange place) (of_length 0)) in
    let few = at_most_of n most (passed (nat_le n most) (OutOfRange place) (of_length 1)) in record {
      enough = omega (arith, items_counted ds, enough);
      few = omega (arith, items_counted ds, few);
      numbers = items_sound place range ds low (checks 1);
    }
found_sound place least most range (Some (string text)) low e = absurd (cc)
found_sound place least most range (Some (integer n)) low e = absurd (cc)
found_sound place least most range (Some (float x)) low e = absurd (cc)
found_sound place least most range (Some (boolean b)) low e = absurd (cc)
found_sound place least most range (Some (datetime t)) low e = absurd (cc)
found_sound place least most range (Some (table ms)) low e = absurd (cc)

pub decimals_sound : (place : Place) (key : Key) (least most : ℕ) (range : Range) (entry : Data) → pos 0 ≤ℤ range.low → decimals_fault place key least most range entry ≡ None
    → AreRead least most range (decimals_value key entry)
unfolding decimals_fault decimals_value
decimals_sound place key least most range entry low e = found_sound (key_of place key) least most range (at key entry) low e

-- the orders of a curve
pub orders_read : (place : Place) (entry : Data) → decimals_fault place key.CurveAt 2 MAX_CURVE_POINTS BAND entry ≡ None
    → AreRead 2 MAX_CURVE_POINTS BAND (decimals_value key.CurveAt entry)
orders_read place entry e = decimals_sound place key.CurveAt 2 MAX_CURVE_POINTS BAND entry (omega (arith, ints)) e

-- and its ohms
pub ohms_read : (place : Place) (n : ℕ) (entry : Data) → decimals_fault place key.CurveOhms n n ABOVE_ZERO entry ≡ None
    → AreRead n n ABOVE_ZERO (decimals_value key.CurveOhms entry)
ohms_read place n entry e = decimals_sound place key.CurveOhms n n ABOVE_ZERO entry (omega (arith, ints)) e

all_fit : (orders : List ℕ) → AllByRecursion (IsNumber BAND) orders → AllByRecursion (λ (at : ℕ). at < 2 ^ 32) orders
all_fit [] h = tt
all_fit (x ∷ xs) h = let most = h.0.1 in (omega (arith, ints, most), all_fit xs h.1)

pub orders_fit : (orders : List ℕ) → AllByRecursion (IsNumber BAND) orders → All (λ (at : ℕ). at < 2 ^ 32) orders
orders_fit orders h = All-from_recursion (λ (at : ℕ). at < 2 ^ 32) orders (all_fit orders h)

-- ---- a curve
below_of : (m n : ℕ) → nat_lt m n ≡ true → m < n
below_of m n e = grind (arith, nat_tests)

rising_from : (x : ℕ) (xs : List ℕ) → is_rising x xs ≡ true → IsStrictlyIncreasing (x ∷ xs)
rising_from x [] e = rising_one x
rising_from x (y ∷ ys) e =
    let both = and_parts (nat_lt x y) (is_rising y ys) e in
    rising_more x y ys (below_of x y both.0) (rising_from y ys both.1)

rising_sound : (xs : List ℕ) → is_rising 0 xs ≡ true → IsStrictlyIncreasing xs
rising_sound [] e = λ k within. absurd (omega (arith, within))
rising_sound (x ∷ xs) e = let both = and_parts (nat_lt 0 x) (is_rising x xs) e in rising_from x xs both.1

-- orders that rise, from at most an order to at least another
record Reach (from to : ℤ) (orders : List ℕ) : Type 0 where
  rising : is_rising 0 orders ≡ true
  first : slice_index orders 0 ≤ unsigned_abs from
  last : unsigned_abs to ≤ slice_index orders (length orders - 1)

reach_sound : (place : Place) (from to : ℤ) (orders : List ℕ) → reach_fault place from to orders ≡ None → Reach from to orders
unfolding reach_fault
reach_sound place from to orders e =
    let rises = is_rising 0 orders in
    let begins = nat_le (slice_index orders 0) (unsigned_abs from) in
    let ends = nat_le (unsigned_abs to) (slice_index orders (length orders - 1)) in
    let three = and_parts (rises && begins) ends (passed (rises && begins && ends) (OutOfRange (key_of place key.CurveAt)) e) in
    let two = and_parts rises begins three.0 in record {
      rising = two.0;
      first = at_most_of (slice_index orders 0) (unsigned_abs from) two.1;
      last = at_most_of (unsigned_abs to) (slice_index orders (length orders - 1)) three.1;
    }

points_counted : (orders ohms : List ℕ) → length ohms ≡ length orders → length (points_of orders ohms) ≡ length orders
points_counted [] ohms same = refl
points_counted (x ∷ xs) [] same = absurd (omega (arith, same))
points_counted (x ∷ xs) (w ∷ ws) same = omega (arith, points_counted xs ws (omega (arith, same)))

orders_back : (orders ohms : List ℕ) → length ohms ≡ length orders → curve_orders (points_of orders ohms) ≡ orders
orders_back [] ohms same = refl
orders_back (x ∷ xs) [] same = absurd (omega (arith, same))
orders_back (x ∷ xs) (w ∷ ws) same = ap (λ (rest : List ℕ). x ∷ rest) (orders_back xs ws (omega (arith, same)))

points_lawful : (orders ohms : List ℕ) → AllByRecursion (IsNumber BAND) orders → AllByRecursion (IsNumber ABOVE_ZERO) ohms → AllByRecursion IsLawfulPoint (points_of orders ohms)
points_lawful [] ohms h k = tt
points_lawful (x ∷ xs) [] h k = tt
points_lawful (x ∷ xs) (w ∷ ws) h k = (record { at = h.0; ohms = k.0 }, points_lawful xs ws h.1 k.1)

point_at : (orders ohms : List ℕ) (n : ℕ) → length ohms ≡ length orders → n < length orders
    → IsSomeAnd (slice_get (points_of orders ohms) n) (λ (point : CurvePoint). point.at ≡ slice_index orders n)
point_at [] ohms n same lt = absurd (omega (arith, lt))
point_at (x ∷ xs) [] n same lt = absurd (omega (arith, same))
point_at (x ∷ xs) (w ∷ ws) zero same lt = refl
point_at (x ∷ xs) (w ∷ ws) (suc n) same lt = point_at xs ws n (omega (arith, same)) (omega (arith, lt))

some_too : (o : Option CurvePoint) (P Q : CurvePoint → Type 0) → ((point : CurvePoint) → P point → Q point) → IsSomeAnd o P → IsSomeAnd o Q
some_too None P Q more h = h
some_too (Some point) P Q more h = more point h

spans_of : (orders ohms : List ℕ) (from to : ℤ) → length ohms ≡ length orders → 1 ≤ length orders → IsIn BAND from → IsIn BAND to → Reach from to orders
    → Spans (points_of orders ohms) from to
spans_of orders ohms from to same some f t reach =
    let f_low = f.0 in
    let t_low = t.0 in
    let begins = reach.first in
    let ends = reach.last in
    let counted : length (points_of orders ohms) ≡ length orders = points_counted orders ohms same in record {
      first = some_too (slice_get (points_of orders ohms) 0) (λ (point : CurvePoint). point.at ≡ slice_index orders 0) (λ (point : CurvePoint). pos point.at ≤ℤ from)
          (λ point is. omega (arith, ints, is, begins, f_low)) (point_at orders ohms 0 same (omega (arith, some)));
      last = subst (λ (n : ℕ). IsSomeAnd (slice_get (points_of orders ohms) (n - 1)) (λ (point : CurvePoint). to ≤ℤ pos point.at)) (sym counted)
          (some_too (slice_get (points_of orders ohms) (length orders - 1)) (λ (point : CurvePoint). point.at ≡ slice_index orders (length orders - 1))
          (λ (point : CurvePoint). to ≤ℤ pos point.at) (λ point is. omega (arith, ints, is, ends, t_low)) (point_at orders ohms (length orders - 1) same (omega (arith, some))));
    }

-- a lawful curve that reaches over a band
pub record IsReaching (from to : ℤ) (points : List CurvePoint) : Type 0 where
  pub lawful : IsLawfulCurve (curve_of points)
  pub spans : Spans (curve_points (curve_of points)) from to

reaching : (orders ohms : List ℕ) (n : ℕ) (from to : ℤ) → AreRead 2 MAX_CURVE_POINTS BAND orders → AreRead n n ABOVE_ZERO ohms → n ≡ length orders
    → IsIn BAND from → IsIn BAND to → Reach from to orders → IsReaching from to (points_of orders ohms)
reaching orders ohms n from to h k is f t reach =
    let least = h.enough in
    let most = h.few in
    let same : length ohms ≡ length orders = omega (arith, k.enough, k.few, is) in
    let points = points_of orders ohms in
    let counted : length points ≡ length orders = points_counted orders ohms same in
    let back : curve_points (curve_of points) ≡ points = points_back points in record {
      lawful = record {
        laid_out = laid_out points (omega (arith, counted, least)) (omega (arith, counted, most));
        points = subst (λ (ps : List CurvePoint). All IsLawfulPoint ps) (sym back) (All-from_recursion IsLawfulPoint points (points_lawful orders ohms h.numbers k.numbers));
        rising = subst (λ (xs : List ℕ). IsStrictlyIncreasing xs) (sym (ap curve_orders back ∙ orders_back orders ohms same)) (rising_sound orders reach.rising);
      };
      spans = subst (λ (ps : List CurvePoint). Spans ps from to) (sym back) (spans_of orders ohms from to same (omega (arith, least)) f t reach);
    }

-- ---- the threshold of a scan
-- what holds of a threshold, in a study of this version, over a band
pub record IsLimit (version : ℕ) (from to : ℤ) (limit : Limit) : Type 0 where
  pub threshold : IsThreshold version limit.threshold limit.curve
  pub curve : IsLawfulCurve limit.curve × Spans (curve_points limit.curve) from to

curve_sound : (place : Place) (from to : ℤ) (entry : Data) → IsIn BAND from → IsIn BAND to → curve_fault place from to entry ≡ None
    → IsLawfulCurve (curve_value entry) × Spans (curve_points (curve_value entry)) from to
unfolding curve_fault curve_value
curve_sound place from to entry f t e =
    let orders = decimals_value key.CurveAt entry in
    let n = length orders in
    let checks = no_fault (decimals_fault place key.CurveAt 2 MAX_CURVE_POINTS BAND entry ∷ reach_fault place from to orders ∷ decimals_fault place key.CurveOhms n n ABOVE_ZERO entry ∷ []) e in
    let made = reaching orders (decimals_value key.CurveOhms entry) n from to (orders_read place entry (checks 0)) (ohms_read place n entry (checks 2)) refl f t (reach_sound place from to orders (checks 1)) in
    (made.lawful, made.spans)

second : (version : ℕ) → has_curves version ≡ true → version ≡ 2
second version e = grind (arith, nat_tests)

first_of : (version : ℕ) → (version ≡ 1) ⊎ (version ≡ 2) → has_curves version ≡ false → version ≡ 1
first_of version either e = grind (arith, nat_tests)

flat_limit : (version : ℕ) (from to ohms : ℤ) → version ≡ 1 → IsIn BAND from → IsIn BAND to → IsIn ABOVE_ZERO ohms
    → IsLimit version from to (record { threshold = Some ohms; curve = curve_of (flat_points (unsigned_abs ohms)) })
flat_limit version from to ohms one f t h =
    let low = h.0 in
    let high = h.1 in record {
      threshold = (one, h, refl);
      curve = (flat_lawful (unsigned_abs ohms) (omega (arith, ints, low, high), omega (arith, ints, low, high)), flat_spans (unsigned_abs ohms) from to f t);
    }

limit_cases : (curved : Bool) (version : ℕ) (place : Place) (from to : ℤ) (entry : Data) → has_curves version ≡ curved → (version ≡ 1) ⊎ (version ≡ 2) → IsIn BAND from → IsIn BAND to
    → (if curved then curve_fault place from to entry else decimal_fault place key.Threshold ABOVE_ZERO entry) ≡ None
    → IsLimit version from to (if curved
    then record { threshold = None; curve = curve_value entry }
    else record { threshold = Some (decimal_value key.Threshold entry); curve = curve_of (flat_points (unsigned_abs (decimal_value key.Threshold entry))) })
limit_cases true version place from to entry is either f t e = record { threshold = second version is; curve = curve_sound place from to entry f t e }
limit_cases false version place from to entry is either f t e =
    flat_limit version from to (decimal_value key.Threshold entry) (first_of version either is) f t (decimal_sound place key.Threshold ABOVE_ZERO entry e)

pub limit_sound : (version : ℕ) (place : Place) (from to : ℤ) (entry : Data) → (version ≡ 1) ⊎ (version ≡ 2) → IsIn BAND from → IsIn BAND to
    → limit_fault version place from to entry ≡ None → IsLimit version from to (limit version entry)
unfolding limit_fault limit
limit_sound version place from to entry either f t e = limit_cases (has_curves version) version place from to entry refl either f t e

pub ruleset read_steps = (orders_read, orders_fit, ohms_read)
