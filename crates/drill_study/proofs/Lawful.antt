-- A drill's study is lawful.
use Rattle.std.proofs.Common.{◌≡◌, inl, ℕ, zero, suc, ◌+◌, ◌-◌, ◌/◌, ◌≤◌, ◌<◌, pos, Bool, true, false, List, [], ◌∷◌, ◌++◌, map, length, slice_get, option_map, Some, refl, ap, sym, subst, subst₂, ◌∙◌, arith, if◌then◌else◌}
use Rattle.std.proofs.lemmas.Int.{ints}
use lib.Signed.{le_z_yes}
use Rattle.std.proofs.Math.Nat.{mod-lt}
use Rattle.std.specs.List.{AllByRecursion}
use Rattle.std.proofs.lemmas.List.Elements.{All-from_recursion}
use Rattle.study_model.specs.Lawful.{IsLawful, IsLawfulBus, IsLawfulSource, IsLawfulLine, IsLawfulTransformer, IsLawfulLoad, IsLawfulBank, IsLawfulFilter, IsLawfulScan, IsLawfulPcc, IsLawfulCandidate, IsLawfulTolerance, IsLawfulOutage}
use Rattle.study_model.specs.Elements.{element_name, elements_of, names_of, of_source, of_line, of_load}
use Rattle.study_model.specs.Range.{IsIn}
use Rattle.study_model.specs.declared.range.TheConstants.Range.{ABOVE_ZERO, BAND}
use Rattle.study_model.specs.declared.words.StudyModel.TheVariants.{Sequence}
use Rattle.study_model.specs.declared.records.Bus.{Bus}
use Rattle.study_model.specs.declared.records.ScanItem.{ScanItem}
use Rattle.study_model.proofs.Curves.{flat_lawful, flat_spans}
use Rattle.drill_study.specs.Draws.{drawn, after}
use Rattle.drill_study.specs.Drill.{buses_from, line_of, lines_from, load_of, has_load, loads_from, bank_of, drill_buses, drill_lines, drill_loads, drawn_lines, drawn_all, drill_source, drill_filter, drill_scan, drill_of}
use Rattle.drill_study.proofs.NameTexts.{is_numbered, place_is, Ascend, begin_before, ascend_append, ascend_named, names_differ}

-- what is drawn is below its bound
pub drawn_below : (z k : ℕ) → 1 ≤ k → drawn z k < k
unfolding drawn
drawn_below z k some = mod-lt (z / 65536) (omega (arith, some))

-- ---- buses
pub buses_count : (count j : ℕ) → length (buses_from count j) ≡ count
buses_count zero j = refl
buses_count (suc count) j = ap suc (buses_count count (j + 1))

bus_kv : (count j k : ℕ) → k < count → option_map (λ (bus : Bus). bus.kv) (slice_get (buses_from count j) k) ≡ Some (pos 33000000)
bus_kv zero j k inside = absurd (omega (arith, inside))
bus_kv (suc count) j zero inside = refl
bus_kv (suc count) j (suc k) inside = bus_kv count (j + 1) k (omega (arith, inside))

pub drill_buses_count : length drill_buses ≡ 60
unfolding drill_buses
drill_buses_count = buses_count 60 0

drill_kv : (k : ℕ) → k < 60 → option_map (λ (bus : Bus). bus.kv) (slice_get drill_buses k) ≡ Some (pos 33000000)
unfolding drill_buses
drill_kv k inside = bus_kv 60 0 k inside

is_bus : (k : ℕ) → k < 60 → k < length drill_buses
is_bus k inside = omega (arith, inside, drill_buses_count)

buses_lawful : (count j : ℕ) → j + count ≤ 60 → AllByRecursion IsLawfulBus (buses_from count j)
buses_lawful zero j few = tt
buses_lawful (suc count) j few = (record { name = is_numbered 66 (j + 1) refl (omega (arith, few)); kv = (le_z_yes tt, le_z_yes tt) }, buses_lawful count (j + 1) (omega (arith, few)))

-- ---- lines
line_lawful : (j z : ℕ) → j < 59 → IsLawfulLine Sequence drill_buses (line_of j z)
line_lawful j z inside =
    let to = drawn_below (after 1 z) (59 - j) (omega (arith, inside)) in
    let r = drawn_below (after 2 z) 50 (omega arith) in
    let x = drawn_below (after 3 z) 400 (omega arith) in
    let b = drawn_below (after 4 z) 200 (omega arith) in
    let from_kv = drill_kv j (omega (arith, inside)) in
    let to_kv = drill_kv (j + 1 + drawn (after 1 z) (59 - j)) (omega (arith, to, inside)) in
    record {
      name = is_numbered 76 (j + 1) refl (omega (arith, inside));
      from = is_bus j (omega (arith, inside));
      to = (is_bus (j + 1 + drawn (after 1 z) (59 - j)) (omega (arith, to, inside)), λ same. absurd (omega (arith, same)), from_kv ∙ sym to_kv);
      r = (omega (arith, ints), omega (arith, ints, r));
      x = ((omega (arith, ints), omega (arith, ints, x)), λ none. absurd (omega (arith, ints, none.0)));
      b = (omega (arith, ints), omega (arith, ints, b));
      r0_x0 = (tt, tt);
      b0 = ((le_z_yes tt, le_z_yes tt), omega (arith, ints));
      sections = (omega arith, omega arith);
      xab_xbc_xca = tt;
      skin_k = (le_z_yes tt, le_z_yes tt);
      skin_m = (le_z_yes tt, le_z_yes tt);
    }

lines_lawful : (count j z : ℕ) → j + count ≤ 59 → AllByRecursion (IsLawfulLine Sequence drill_buses) (lines_from count j z)
lines_lawful zero j z few = tt
lines_lawful (suc count) j z few = (line_lawful j z (omega (arith, few)), lines_lawful count (j + 1) (after 4 z) (omega (arith, few)))

pub lines_count : (count j z : ℕ) → length (lines_from count j z) ≡ count
lines_count zero j z = refl
lines_count (suc count) j z = ap suc (lines_count count (j + 1) (after 4 z))

-- ---- loads
load_lawful : (j z : ℕ) → j < 59 → IsLawfulLoad Sequence drill_buses (load_of j z)
load_lawful j z inside =
    let p = drawn_below (after 1 z) 4 (omega arith) in
    record {
      name = is_numbered 68 (j + 1) refl (omega (arith, inside));
      bus = is_bus j (omega (arith, inside));
      p_q = ((omega (arith, ints), omega (arith, ints, p)), (le_z_yes tt, le_z_yes tt));
      r_x = tt;
      phase = tt;
    }

loads_lawful : (count j z : ℕ) → j + count ≤ 59 → AllByRecursion (IsLawfulLoad Sequence drill_buses) (loads_from count j z)
loads_lawful zero j z few = tt
loads_lawful (suc count) j z few = by (has_load z) (loads_lawful count (j + 1) (after 2 z) (omega (arith, few))) (loads_lawful count (j + 1) (after 1 z) (omega (arith, few)))
  where
    by : (t : Bool) → AllByRecursion (IsLawfulLoad Sequence drill_buses) (loads_from count (j + 1) (after 2 z)) → AllByRecursion (IsLawfulLoad Sequence drill_buses) (loads_from count (j + 1) (after 1 z))
        → AllByRecursion (IsLawfulLoad Sequence drill_buses) (if t then load_of j (after 1 z) ∷ loads_from count (j + 1) (after 2 z) else loads_from count (j + 1) (after 1 z))
    by true with_load without = (load_lawful j (after 1 z) (omega (arith, few)), with_load)
    by false with_load without = without

pub loads_few : (count j z : ℕ) → length (loads_from count j z) ≤ count
loads_few zero j z = omega arith
loads_few (suc count) j z = by (has_load z) (loads_few count (j + 1) (after 2 z)) (loads_few count (j + 1) (after 1 z))
  where
    by : (t : Bool) → length (loads_from count (j + 1) (after 2 z)) ≤ count → length (loads_from count (j + 1) (after 1 z)) ≤ count
        → length (if t then load_of j (after 1 z) ∷ loads_from count (j + 1) (after 2 z) else loads_from count (j + 1) (after 1 z)) ≤ suc count
    by true with_load without = omega (arith, with_load)
    by false with_load without = omega (arith, without)

-- ---- names
bus_names : (count j : ℕ) → j + count < 100 → Ascend (λ (bus : Bus). bus.name) (j + 1) (j + 1 + count) (buses_from count j)
bus_names zero j few = omega arith
bus_names (suc count) j few =
    let here = place_is 66 (j + 1) (omega (arith, few)) in
    (omega (arith, here), subst₂ (λ lo hi. Ascend (λ (bus : Bus). bus.name) lo hi (buses_from count (j + 1))) (omega (arith, here)) (omega arith) (bus_names count (j + 1) (omega (arith, few))))

line_names : (count j z : ℕ) → j + count < 100 → Ascend element_name (200 + j + 1) (200 + j + 1 + count) (map of_line (lines_from count j z))
line_names zero j z few = omega arith
line_names (suc count) j z few =
    let here = place_is 76 (j + 1) (omega (arith, few)) in
    (omega (arith, here), subst₂ (λ lo hi. Ascend element_name lo hi (map of_line (lines_from count (j + 1) (after 4 z)))) (omega (arith, here)) (omega arith) (line_names count (j + 1) (after 4 z) (omega (arith, few))))

load_names : (count j z : ℕ) → j + count < 100 → Ascend element_name (300 + j + 1) (300 + j + 1 + count) (map of_load (loads_from count j z))
load_names zero j z few = omega arith
load_names (suc count) j z few = by (has_load z) (load_names count (j + 1) (after 2 z) (omega (arith, few))) (load_names count (j + 1) (after 1 z) (omega (arith, few)))
  where
    by : (t : Bool) → Ascend element_name (300 + (j + 1) + 1) (300 + (j + 1) + 1 + count) (map of_load (loads_from count (j + 1) (after 2 z))) → Ascend element_name (300 + (j + 1) + 1) (300 + (j + 1) + 1 + count) (map of_load (loads_from count (j + 1) (after 1 z)))
        → Ascend element_name (300 + j + 1) (300 + j + 1 + suc count) (map of_load (if t then load_of j (after 1 z) ∷ loads_from count (j + 1) (after 2 z) else loads_from count (j + 1) (after 1 z)))
    by true with_load without =
        let here = place_is 68 (j + 1) (omega (arith, few)) in
        (omega (arith, here), subst₂ (λ lo hi. Ascend element_name lo hi (map of_load (loads_from count (j + 1) (after 2 z)))) (omega (arith, here)) (omega arith) with_load)
    by false with_load without = begin_before element_name (300 + j + 1) (300 + (j + 1) + 1) (300 + j + 1 + suc count) (map of_load (loads_from count (j + 1) (after 1 z))) (omega arith) (subst (λ hi. Ascend element_name (300 + (j + 1) + 1) hi (map of_load (loads_from count (j + 1) (after 1 z)))) (omega arith) without)

-- ---- the study
drill_buses_lawful : AllByRecursion IsLawfulBus drill_buses
unfolding drill_buses
drill_buses_lawful = buses_lawful 60 0 (omega arith)

drill_lines_lawful : (number : ℕ) → AllByRecursion (IsLawfulLine Sequence drill_buses) (drill_lines number)
unfolding drill_lines
drill_lines_lawful number = lines_lawful 59 0 number (omega arith)

pub drill_lines_count : (number : ℕ) → length (drill_lines number) ≡ 59
unfolding drill_lines
drill_lines_count number = lines_count 59 0 number

drill_loads_lawful : (number : ℕ) → AllByRecursion (IsLawfulLoad Sequence drill_buses) (drill_loads number)
unfolding drill_loads
drill_loads_lawful number = loads_lawful 59 0 (drawn_lines number) (omega arith)

pub drill_loads_few : (number : ℕ) → length (drill_loads number) ≤ 59
unfolding drill_loads
drill_loads_few number = loads_few 59 0 (drawn_lines number)

drill_bus_names : Ascend (λ (bus : Bus). bus.name) 1 61 drill_buses
unfolding drill_buses
drill_bus_names = bus_names 60 0 (omega arith)

drill_line_names : (number : ℕ) → Ascend element_name 201 260 (map of_line (drill_lines number))
unfolding drill_lines
drill_line_names number = line_names 59 0 number (omega arith)

drill_load_names : (number : ℕ) → Ascend element_name 301 360 (map of_load (drill_loads number))
unfolding drill_loads
drill_load_names number = load_names 59 0 (drawn_lines number) (omega arith)

element_names : (number : ℕ) → Ascend element_name 61 601 (elements_of (drill_of number))
unfolding drill_of
element_names number =
    ascend_append element_name 61 201 601 (of_source drill_source ∷ []) _ (omega arith, omega arith)
    (ascend_append element_name 201 260 601 (map of_line (drill_lines number)) _ (drill_line_names number)
    (ascend_append element_name 260 360 601 (map of_load (drill_loads number)) _ (begin_before element_name 260 301 360 (map of_load (drill_loads number)) (omega arith) (drill_load_names number))
    (omega arith, (omega arith, omega arith))))

all_names : (number : ℕ) → Ascend (λ (text : List ℕ). text) 0 700 (names_of (drill_of number))
unfolding drill_of
all_names number =
    let buses = map (λ (bus : Bus). bus.name) drill_buses in
    let elements = map element_name (elements_of (drill_of number)) in
    let scans = map (λ (scan : ScanItem). scan.name) (drill_scan ∷ []) in
    let first : Ascend (λ (text : List ℕ). text) 0 61 buses = begin_before (λ (text : List ℕ). text) 0 1 61 buses (omega arith) (ascend_named (λ (bus : Bus). bus.name) 1 61 drill_buses drill_bus_names) in
    let second : Ascend (λ (text : List ℕ). text) 61 601 elements = ascend_named element_name 61 601 (elements_of (drill_of number)) (element_names number) in
    let last : Ascend (λ (text : List ℕ). text) 601 700 scans = (omega arith, omega arith) in
    ascend_append (λ (text : List ℕ). text) 0 700 700 (buses ++ elements ++ scans) [] (ascend_append (λ (text : List ℕ). text) 0 601 700 (buses ++ elements) scans (ascend_append (λ (text : List ℕ). text) 0 61 601 buses elements first second) last) (omega arith)

in_range : (n : ℕ) → 1 ≤ n → n ≤ 999999999999 → IsIn ABOVE_ZERO (pos n)
in_range n some most = (omega (arith, ints, some), omega (arith, ints, most))

source_lawful : IsLawfulSource drill_buses drill_source
source_lawful = record {
  name = refl;
  bus = is_bus 59 (omega arith);
  r = (le_z_yes tt, le_z_yes tt);
  x = ((le_z_yes tt, le_z_yes tt), λ none. absurd (omega (arith, ints, none.0)));
  r0_x0 = tt;
  skin_k = (le_z_yes tt, le_z_yes tt);
  skin_m = (le_z_yes tt, le_z_yes tt);
}

bank_lawful : (z : ℕ) → IsLawfulBank Sequence drill_buses (bank_of z)
bank_lawful z =
    let q = drawn_below (after 1 z) 6 (omega arith) in
    record { name = refl; bus = is_bus 0 (omega arith); q = in_range _ (omega arith) (omega (arith, q)); phase = tt }

filter_lawful : IsLawfulFilter Sequence drill_buses drill_filter
filter_lawful = record {
  name = refl;
  bus = is_bus 29 (omega arith);
  q = (le_z_yes tt, le_z_yes tt);
  order = (le_z_yes tt, le_z_yes tt);
  quality = (le_z_yes tt, le_z_yes tt);
  phase = tt;
}

band_from : IsIn BAND (pos 2000000)
band_from = (le_z_yes tt, le_z_yes tt)

band_to : IsIn BAND (pos 12000000)
band_to = (le_z_yes tt, le_z_yes tt)

ohms_above : IsIn ABOVE_ZERO (pos 20000000)
ohms_above = (le_z_yes tt, le_z_yes tt)

scan_lawful : IsLawfulScan 1 Sequence drill_buses drill_scan
scan_lawful = record {
  name = (refl, λ same. absurd (no_limits (ap length same)));
  bus = is_bus 59 (omega arith);
  network_phase = tt;
  from = band_from;
  to = (band_to, omega (arith, ints));
  threshold = (refl, ohms_above, refl);
  curve = (flat_lawful 20000000 ohms_above, flat_spans 20000000 (pos 2000000) (pos 12000000) band_from band_to);
  finest = ((le_z_yes tt, le_z_yes tt), le_z_yes tt);
  locate = ((le_z_yes tt, le_z_yes tt), le_z_yes tt);
}
  where
    no_limits : ◌≡◌ {A = ℕ} 2 6 → ⊥
    no_limits same = omega (arith, same)

pub drill_lawful : (number : ℕ) → IsLawful (drill_of number)
unfolding drill_of
drill_lawful number = record {
  version = inl refl;
  mva = (le_z_yes tt, le_z_yes tt);
  hz = (le_z_yes tt, le_z_yes tt);
  scale = inl refl;
  root3 = (le_z_yes tt, le_z_yes tt);
  buses_count = (omega (arith, drill_buses_count), omega (arith, drill_buses_count));
  buses = All-from_recursion IsLawfulBus drill_buses drill_buses_lawful;
  sources_count = omega arith;
  sources = All-from_recursion (IsLawfulSource drill_buses) (drill_source ∷ []) (source_lawful, tt);
  lines_count = omega (arith, drill_lines_count number);
  lines = All-from_recursion (IsLawfulLine Sequence drill_buses) (drill_lines number) (drill_lines_lawful number);
  transformers_count = omega arith;
  transformers = All-from_recursion (IsLawfulTransformer drill_buses) [] tt;
  loads_count = omega (arith, drill_loads_few number);
  loads = All-from_recursion (IsLawfulLoad Sequence drill_buses) (drill_loads number) (drill_loads_lawful number);
  banks_count = omega arith;
  banks = All-from_recursion (IsLawfulBank Sequence drill_buses) (bank_of (drawn_all number) ∷ []) (bank_lawful (drawn_all number), tt);
  filters_count = omega arith;
  filters = All-from_recursion (IsLawfulFilter Sequence drill_buses) (drill_filter ∷ []) (filter_lawful, tt);
  scans_count = omega arith;
  scans = All-from_recursion (IsLawfulScan 1 Sequence drill_buses) (drill_scan ∷ []) (scan_lawful, tt);
  points_count = omega arith;
  points = All-from_recursion (IsLawfulPcc (drill_of number)) [] tt;
  candidates_count = omega arith;
  candidates = All-from_recursion (IsLawfulCandidate (drill_of number)) [] tt;
  tolerances_count = omega arith;
  tolerances = All-from_recursion (IsLawfulTolerance (drill_of number)) [] tt;
  tolerances_differ = λ i j d lt short. absurd (omega arith);
  outages_count = omega arith;
  outages = All-from_recursion (IsLawfulOutage (drill_of number)) [] tt;
  outages_differ = λ i j d lt short. absurd (omega arith);
  names = names_differ 0 700 _ (all_names number);
}
